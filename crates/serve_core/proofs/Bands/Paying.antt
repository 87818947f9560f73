-- How many bands of one cost a budget pays for, and how many behind them.
use Rattle.std.proofs.Common.{ℕ, zero, suc, ◌+◌, ◌-◌, ◌*◌, ◌/◌, min, ◌≡◌, ◌≤◌, ◌<◌, ◌⊎◌, inl, inr, refl, sym}
use Rattle.std.proofs.Common.{◌∙◌, ap, ap₂, arith}
use Rattle.std.proofs.Common.{List, ◌++◌, replicate, length, drop, mul-le-mul_right}
use Rattle.std.proofs.lemmas.List.{drop_all}
use Rattle.std.proofs.lemmas.Nat.{div-add-mod', mod_below}
use Rattle.serve_core.specs.Grants.{paid_count}
use Rattle.serve_core.proofs.Bands.Grants.{paid_no, paid_none, paid_yes}

-- a budget that pays for all n
pub paid_all : (n c most budget : ℕ) (rest : List ℕ) → n ≤ most → n * c ≤ budget
    → paid_count most budget (replicate n c ++ rest) ≡ n + paid_count (most - n) (budget - n * c) rest
paid_all zero c most budget rest l h =
    let m : most ≡ most - 0 = omega arith in
    let b : budget ≡ budget - 0 * c = omega arith in
    let none : paid_count (most - 0) (budget - 0 * c) rest ≡ 0 + paid_count (most - 0) (budget - 0 * c) rest =
    omega arith in
    ap₂ (λ m b. paid_count m b rest) m b ∙ none
paid_all (suc n) c zero budget rest l h = absurd (omega arith)
paid_all (suc n) c (suc most) budget rest l h =
    let first : c ≤ budget = omega (arith, h) in
    let others : n * c ≤ budget - c = omega (arith, h) in
    let more = paid_all n c most (budget - c) rest (omega arith) others in
    let m : most - n ≡ suc most - suc n = omega arith in
    let b : budget - c - n * c ≡ budget - suc n * c = omega (arith, h) in
    let same = ap₂ (λ m b. paid_count m b rest) m b in
    paid_yes most budget c (replicate n c ++ rest) first
    ∙ omega (arith, more, same)

-- a budget or a limit that ends at k of them
pub paid_some : (k n c most budget : ℕ) (rest : List ℕ) → k < n → k ≤ most → k * c ≤ budget
    → (k ≡ most) ⊎ (budget < suc k * c) → paid_count most budget (replicate n c ++ rest) ≡ k
paid_some k zero c most budget rest l m h e = absurd (omega arith)
paid_some zero (suc n) c zero budget rest l m h e = refl
paid_some zero (suc n) c (suc most) budget rest l m h e =
    elim e [
      | inl p ↦ absurd (omega (arith, p))
      | inr p ↦ paid_no (suc most) budget c (replicate n c ++ rest) (omega (arith, p))
    ]
paid_some (suc k) (suc n) c zero budget rest l m h e = absurd (omega arith)
paid_some (suc k) (suc n) c (suc most) budget rest l m h e =
    let first : c ≤ budget = omega (arith, h) in
    let others : k * c ≤ budget - c = omega (arith, h) in
    let ends : (k ≡ most) ⊎ (budget - c < suc k * c) =
    elim e [ inl p ↦ inl (omega (arith, p)) | inr p ↦ inr (omega (arith, p, first)) ] in
    paid_yes most budget c (replicate n c ++ rest) first
    ∙ ap suc (paid_some k n c most (budget - c) rest (omega arith) (omega arith) others ends)

all_fit : (n m q k : ℕ) → k ≡ min (min n m) q → n ≤ k → (k ≡ n) × (n ≤ m) × (n ≤ q)
all_fit n m q k e l = grind (arith, e)

some_fit : (n m q k : ℕ) → k ≡ min (min n m) q → k < n → ((k ≡ m) × (k ≤ q)) ⊎ ((k ≡ q) × (k ≤ m))
some_fit n m q k e l = grind (arith, e)

-- so many steps of cost c as a budget b pays for
paid_for : (b c k : ℕ) → k ≤ b / c → k * c ≤ b
paid_for b c k l = let more = mul-le-mul_right c l in omega (arith, more, div-add-mod' b c)

-- a run of n steps of cost c, of which k are the most that the limit and the budget allow
pub turn_all : (n c most b k : ℕ) (rest : List ℕ) → k ≡ min (min n most) (b / c) → n ≤ k
    → paid_count most b (replicate n c ++ rest) ≡ k + paid_count (most - n) (b - n * c) rest
turn_all n c most b k rest e l =
    let fit = all_fit n most (b / c) k e l in
    paid_all n c most b rest fit.1 (paid_for b c n fit.2)
    ∙ ap (λ j. j + paid_count (most - n) (b - n * c) rest) (sym fit.0)

pub turn_some : (n c most b k : ℕ) (rest : List ℕ) → 1 ≤ c → k ≡ min (min n most) (b / c) → k < n
    → paid_count most b (replicate n c ++ rest) ≡ k
turn_some n c most b k rest some e l =
    elim (some_fit n most (b / c) k e l) [
      | inl p ↦ paid_some k n c most b rest l (omega (arith, p.0)) (paid_for b c k p.1) (inl p.0)
      | inr p ↦
          let past : b < suc k * c = rw p.0 (omega (arith, div-add-mod' b c, mod_below b c some)) in
          paid_some k n c most b rest l p.1 (paid_for b c k (omega (arith, p.0))) (inr past)
    ]

pub paid_past : (most budget k : ℕ) (costs : List ℕ) → length costs ≤ k
    → paid_count most budget (drop k costs) ≡ 0
paid_past most budget k costs l = rw (drop_all k costs l) (paid_none most budget)
