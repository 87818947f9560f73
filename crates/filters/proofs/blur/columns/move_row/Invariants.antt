use Rattle.std.proofs.Common.{◌≡◌, ◌+◌, ◌<◌, ◌≤◌, ℕ, slice_index}
use Rattle.filters.proofs.blur.columns.move_row.Given as goal

abbrev pub invariant-loop-x : goal.invariant-loop-x
invariant-loop-x l =
    ((k : ℕ) → k < l.x
    → slice_index l.columns (l.radius + k) + slice_index l.leaving k
    ≡ slice_index l.fn.columns (l.radius + k) + slice_index l.entering k)
    × ((k : ℕ) → l.x ≤ k → slice_index l.columns (l.radius + k) ≡ slice_index l.fn.columns (l.radius + k))
