-- Sums over lists, item by item.
use Rattle.std.proofs.Common.{ℕ, zero, suc, ◌+◌, ◌*◌, ◌≡◌, ◌≤◌, Bool, true, false, not, refl, sym, ◌∙◌, ap}
use Rattle.std.proofs.Common.{subst, arith, List, [], ◌∷◌, filter, map, sum_by, Some, slice_get}
use Rattle.std.proofs.lemmas.List.Sums.{sum_by-cons}
use Rattle.serve_core.specs.States.{map_at}

module _ {X : Type 0} where
  -- the sum over changed items is no more where no item's part is
  pub sum_changed : {Y : Type 0} (g : X → ℕ) (k : Y → ℕ) (f : ℕ → X → Y) (i : ℕ) (xs : List X)
      → ((s : ℕ) (x : X) → slice_get xs s ≡ Some x → k (f (s + i) x) ≤ g x)
      → sum_by k (map_at i f xs) ≤ sum_by g xs
  sum_changed g k f i [] h = omega arith
  sum_changed g k f i (x ∷ xs) h =
      let first : 0 + i ≡ i = omega arith in
      let head : k (f i x) ≤ g x = subst (λ (n : ℕ). k (f n x) ≤ g x) first (h zero x refl) in
      let tail = sum_changed g k f (suc i) xs (λ s y e.
      let place : suc s + i ≡ s + suc i = omega arith in
      subst (λ (n : ℕ). k (f n y) ≤ g y) place (h (suc s) y e)) in
      rw (sum_by-cons k (f i x) (map_at (suc i) f xs), sum_by-cons g x xs) (omega (arith, head, tail))

  pub sum_less : (f g : X → ℕ) (xs : List X) → ((s : ℕ) (x : X) → slice_get xs s ≡ Some x → f x ≤ g x)
      → sum_by f xs ≤ sum_by g xs
  sum_less f g [] h = omega arith
  sum_less f g (x ∷ xs) h =
      let head = h zero x refl in
      let tail = sum_less f g xs (λ s y e. h (suc s) y e) in
      rw (sum_by-cons f x xs, sum_by-cons g x xs) (omega (arith, head, tail))

  pub sum_grown : (f g k : X → ℕ) (c : ℕ) (xs : List X)
      → ((s : ℕ) (x : X) → slice_get xs s ≡ Some x → f x ≤ g x + c * k x)
      → sum_by f xs ≤ sum_by g xs + c * sum_by k xs
  sum_grown f g k c [] h = omega arith
  sum_grown f g k c (x ∷ xs) h =
      let head = h zero x refl in
      let tail = sum_grown f g k c xs (λ s y e. h (suc s) y e) in
      rw (sum_by-cons f x xs, sum_by-cons g x xs, sum_by-cons k x xs) (omega (arith, head, tail))

  pub sum_none : (xs : List X) → sum_by (λ x. 0) xs ≡ 0
  sum_none [] = refl
  sum_none (x ∷ xs) = sum_by-cons (λ x. 0) x xs ∙ (let rest = sum_none xs in omega (arith, rest))

  pub sum_mapped : {Y : Type 0} (f : Y → ℕ) (g : X → Y) (xs : List X)
      → sum_by f (map g xs) ≡ sum_by (λ x. f (g x)) xs
  sum_mapped f g [] = refl
  sum_mapped f g (x ∷ xs) =
      sum_by-cons f (g x) (map g xs) ∙ ap (λ (n : ℕ). f (g x) + n) (sum_mapped f g xs)
      ∙ sym (sum_by-cons (λ x. f (g x)) x xs)

  parted_more : (f : X → ℕ) (test : X → Bool) (b : Bool) (x : X) (xs : List X) → test x ≡ b
      → sum_by f (filter test xs) + sum_by f (filter (λ x. not (test x)) xs) ≡ sum_by f xs
      → sum_by f (filter test (x ∷ xs)) + sum_by f (filter (λ x. not (test x)) (x ∷ xs)) ≡ f x + sum_by f xs
  parted_more f test true x xs e rest =
      rw e (let yes = sum_by-cons f x (filter test xs) in omega (arith, yes, rest))
  parted_more f test false x xs e rest =
      rw e (let no = sum_by-cons f x (filter (λ x. not (test x)) xs) in omega (arith, no, rest))

  -- the items that pass a test and those that don't
  pub sum_parted : (f : X → ℕ) (test : X → Bool) (xs : List X)
      → sum_by f (filter test xs) + sum_by f (filter (λ x. not (test x)) xs) ≡ sum_by f xs
  sum_parted f test [] = refl
  sum_parted f test (x ∷ xs) =
      parted_more f test (test x) x xs refl (sum_parted f test xs) ∙ sym (sum_by-cons f x xs)
