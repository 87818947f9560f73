-- What there is of streams, one after the other.
use Rattle.std.proofs.Common.{ℕ, zero, suc, ◌+◌, ◌≡◌, ◌<◌, List, [], ◌∷◌, ◌++◌, take, Some, slice_get, sym, ap}
use Rattle.std.proofs.Common.{◌∙◌, ◌⊎◌, inl, inr, arith, add-one, subst}
use Rattle.std.proofs.lemmas.Option.{slice_get_within}
use Rattle.serve_core.specs.Setup.{StreamSpec}
use Rattle.serve_hub.specs.Seats.{StreamRest, opened_rest, opened_rests}

one_rest : (n m : ℕ) (y x : StreamSpec) → n ≡ m → y ≡ x → opened_rest n y ∷ [] ≡ opened_rest m x ∷ []
one_rest n m y x p q =
    ap (λ (k : ℕ). opened_rest k y ∷ []) p ∙ ap (λ (z : StreamSpec). opened_rest m z ∷ []) q

rests_from : (n : ℕ) (specs : List StreamSpec) (s m : ℕ) (x : StreamSpec) → slice_get specs s ≡ Some x
    → m ≡ n + s → opened_rests n (take (suc s) specs) ≡ opened_rests n (take s specs) ++ opened_rest m x ∷ []
rests_from n [] s m x e h = absurd (omega (arith, slice_get_within [] s x e))
rests_from n (y ∷ ys) zero m x e h =
    let same : y ≡ x = cc in one_rest n m y x (omega (arith, h)) same
rests_from n (y ∷ ys) (suc s) m x e h =
    ap (λ (rests : List StreamRest). opened_rest n y ∷ rests)
    (rests_from (suc n) ys s m x e (omega (arith, h)))

-- one stream more
pub one_more_rest : (specs : List StreamSpec) (s : ℕ) (x : StreamSpec) → slice_get specs s ≡ Some x
    → opened_rests 0 (take (s + 1) specs) ≡ opened_rests 0 (take s specs) ++ opened_rest s x ∷ []
one_more_rest specs s x e = rw add-one (rests_from 0 specs s s x e (omega arith))

less_or_same : (n k : ℕ) → n < k + 1 → (n < k) ⊎ (n ≡ k)
less_or_same n k l = grind arith

-- one number more, where each before it has what it wants
pub one_more_number : (P : ℕ → Type 0) (k : ℕ) → ((n : ℕ) → n < k → P n) → P k → (n : ℕ) → n < k + 1 → P n
one_more_number P k before here n l = elim (less_or_same n k l) [
  | inl p ↦ before n p
  | inr e ↦ subst P (sym e) here
]
