-- Places that are noted one after the other.
use Rattle.std.proofs.Common.{ℕ, ◌≡◌, ◌≢◌, ◌+◌, ◌<◌, ◌∙◌, List, Some, inl, inr, arith, length, slice_get, slice_set}
use Rattle.std.proofs.lemmas.Bool.{cases_order}
use Rattle.serve_core.proofs.Items.Lists.{slice_get_set_other, slice_get_set_same}

-- where each place before is as wanted, and this one is noted so, each place up to it is
pub noted_up_to : {X : Type 0} (wanted : ℕ → X) (xs : List X) (n : ℕ) → n < length xs
    → ((k : ℕ) → k < n → slice_get xs k ≡ Some (wanted k))
    → (k : ℕ) → k < n + 1 → slice_get (slice_set xs n (wanted n)) k ≡ Some (wanted k)
noted_up_to wanted xs n within before k up = elim (cases_order k n) [
  | inl same ↦ rw same (slice_get_set_same xs n (wanted n) within)
  | inr order ↦
      let other : k ≢ n = omega (arith, order) in
      slice_get_set_other xs n k (wanted n) other ∙ before k (omega (arith, other, up))
]
