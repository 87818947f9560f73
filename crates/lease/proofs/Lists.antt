-- What holds of each item of a list.
use Rattle.std.proofs.Common.{ℕ, ◌≡◌, ◌≢◌, ◌+◌, ◌<◌, List, [], ◌∷◌, ◌++◌, length, get_or, slice_set, arith}
use Rattle.std.proofs.Common.{ap, sym, ◌∙◌, inl, inr}
use Rattle.std.proofs.lemmas.List.{get_or-set_same, get_or-set_other, length-set}
use Rattle.std.proofs.Math.ListN.{get_or-append}
use Rattle.std.proofs.Math.Seq.{get_or-append_seam}
use Rattle.std.proofs.lemmas.Bool.{cases_order}

-- what holds of the items and of one more behind them
pub each_more : {X : Type 0} (P : ℕ → X → Type 0) (xs more : List X) (x : X) (i : ℕ) → length xs ≡ i
    → more ≡ xs ++ x ∷ []
    → ((k : ℕ) (d : X) → k < i → P k (get_or xs k d)) → P i x → (k : ℕ) (d : X) → k < i + 1
    → P k (get_or more k d)
each_more P xs more x i n e each new k d h = elim (cases_order k i) [
  | inl same ↦
      let at : get_or more k d ≡ x = ap (λ ys. get_or ys k d) e
      ∙ ap (λ j. get_or (xs ++ x ∷ []) j d) (same ∙ sym n) ∙ get_or-append_seam xs x [] d in
      rw (at, same) new
  | inr order ↦ elim order [
    | inl below ↦
        let at : get_or more k d ≡ get_or xs k d = ap (λ ys. get_or ys k d) e
        ∙ get_or-append xs (x ∷ []) d k (omega arith) in
        rw at (each k d below)
    | inr above ↦ absurd (omega arith)
  ]
]

-- what holds of the items and of one in the place of another
pub each_set : {X : Type 0} (P : ℕ → X → Type 0) (xs : List X) (i : ℕ) (x : X)
    → ((k : ℕ) (d : X) → k < length xs → P k (get_or xs k d))
    → i < length xs → P i x → (k : ℕ) (d : X) → k < length (slice_set xs i x)
    → P k (get_or (slice_set xs i x) k d)
each_set P xs i x each h new k d l = elim (cases_order k i) [
  | inl same ↦
      let at : get_or (slice_set xs i x) k d ≡ x = ap (λ j. get_or (slice_set xs i x) j d) same
      ∙ get_or-set_same xs i x d h in
      rw (at, same) new
  | inr order ↦
      let other : k ≢ i = omega (arith, order) in
      rw (get_or-set_other xs i k x d other) (each k d (omega (arith, l, length-set xs i x)))
]
