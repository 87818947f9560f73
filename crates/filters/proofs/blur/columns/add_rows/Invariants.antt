use Rattle.std.proofs.Common.{◌≡◌, ◌+◌, ◌<◌, ◌≤◌, ℕ, slice_index}
use Rattle.filters.proofs.blur.columns.add_rows.Given as goal

abbrev pub invariant-loop-x : goal.invariant-loop-x
invariant-loop-x l =
    ((k : ℕ) → k < l.x
    → slice_index l.columns (l.radius + k)
    ≡ slice_index l.fn.columns (l.radius + k)
    + (slice_index l.first k + slice_index l.second k + slice_index l.third k + slice_index l.fourth k))
    × ((k : ℕ) → l.x ≤ k → slice_index l.columns (l.radius + k) ≡ slice_index l.fn.columns (l.radius + k))
