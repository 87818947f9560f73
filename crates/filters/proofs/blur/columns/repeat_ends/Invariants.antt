use Rattle.std.proofs.Common.{◌≡◌, ◌+◌, ◌-◌, ◌<◌, ◌≤◌, ℕ, slice_index}
use Rattle.filters.proofs.blur.columns.repeat_ends.Given as goal

abbrev pub invariant-loop-k : goal.invariant-loop-k
invariant-loop-k l =
    ((i : ℕ) → i < l.k → slice_index l.columns i ≡ slice_index l.fn.columns l.radius)
    × ((i : ℕ) → i < l.k → slice_index l.columns (l.end + i) ≡ slice_index l.fn.columns (l.end - 1))
    × ((i : ℕ) → l.radius ≤ i → i < l.end → slice_index l.columns i ≡ slice_index l.fn.columns i)
