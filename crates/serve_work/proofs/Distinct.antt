-- Numbers that are all different, since each of as many is there.
use Rattle.std.proofs.Common.{ℕ, zero, suc, ◌≡◌, ◌≤◌, ◌<◌, ◌+◌, ◌⊎◌, inl, inr, List, [], ◌∷◌, ◌++◌}
use Rattle.std.proofs.Common.{length, append_assoc, length-append, sym, subst, arith}

-- a number is one of these
abbrev pub In : ℕ → List ℕ → Type 0
In m [] = ⊥
In m (x ∷ xs) = (x ≡ m) ⊎ In m xs

-- one that is there twice is there without the first
in_others : (m v : ℕ) (xs ys : List ℕ) → In v ys → In m (xs ++ v ∷ ys) → In m (xs ++ ys)
in_others m v [] ys there (inl e) = subst (λ (n : ℕ). In n ys) e there
in_others m v [] ys there (inr i) = i
in_others m v (x ∷ xs) ys there (inl e) = inl e
in_others m v (x ∷ xs) ys there (inr i) = inr (in_others m v xs ys there i)

abbrev removed : (v : ℕ) (xs : List ℕ) → In v xs → List ℕ
removed v [] i = []
removed v (x ∷ xs) (inl e) = xs
removed v (x ∷ xs) (inr i) = x ∷ removed v xs i

one_less : (v : ℕ) (xs : List ℕ) (i : In v xs) → length (removed v xs i) + 1 ≡ length xs
one_less v [] i = absurd i
one_less v (x ∷ xs) (inl e) = omega arith
one_less v (x ∷ xs) (inr i) = let rest = one_less v xs i in omega (arith, rest)

still_in : (m v : ℕ) (xs : List ℕ) (i : In v xs) → m < v → In m xs → In m (removed v xs i)
still_in m v [] i less j = absurd i
still_in m v (x ∷ xs) (inl e) less (inl f) = absurd (omega (arith, e, f, less))
still_in m v (x ∷ xs) (inl e) less (inr j) = j
still_in m v (x ∷ xs) (inr i) less (inl f) = inl f
still_in m v (x ∷ xs) (inr i) less (inr j) = inr (still_in m v xs i less j)

-- as many different numbers are in no shorter list
all_within : (k : ℕ) (xs : List ℕ) → ((m : ℕ) → m < k → In m xs) → k ≤ length xs
all_within zero xs all = omega arith
all_within (suc k) xs all =
    let i = all k (omega arith) in
    let rest = all_within k (removed k xs i) (λ m less. still_in m k xs i less (all m (omega (arith, less)))) in
    omega (arith, rest, one_less k xs i)

-- no number is there twice
abbrev pub AreDistinct : List ℕ → Type 0
AreDistinct [] = Unit {0}
AreDistinct (x ∷ xs) = (In x xs → ⊥) × AreDistinct xs

pub distinct_from : (front xs : List ℕ) → ((m : ℕ) → m < length (front ++ xs) → In m (front ++ xs)) → AreDistinct xs
distinct_from front [] all = tt
distinct_from front (x ∷ xs) all = (
  λ there. absurd (
      let fewer = all_within (length (front ++ x ∷ xs)) (front ++ xs) (λ m less. in_others m x front xs there (all m less)) in
      omega (arith, fewer, length-append front (x ∷ xs), length-append front xs)),
  distinct_from (front ++ x ∷ []) xs
      (subst (λ (ys : List ℕ). (m : ℕ) → m < length ys → In m ys) (sym (append_assoc front (x ∷ []) xs)) all),
)
