use Rattle.std.proofs.Common.{◌≡◌, ◌+◌, ◌*◌, ◌≤◌, slice_index}
use Rattle.filters.specs.Blur.{sum_below}
use Rattle.filters.proofs.blur.window.columns_sum.Given as goal

abbrev pub invariant-loop-j : goal.invariant-loop-j
invariant-loop-j g l =
    (l.sum ≡ sum_below (λ j. slice_index l.columns (l.x + j)) l.j) × (l.sum ≤ 4335 * l.j)
