use Rattle.std.proofs.Common.{◌≡◌, ◌+◌, ◌*◌, ◌≤◌, slice_index}
use Rattle.filters.specs.Blur.{sum_below}
use Rattle.filters.proofs.blur.window.fours_sum.Given as goal

abbrev pub invariant-loop-g : goal.invariant-loop-g
invariant-loop-g g l =
    (l.sum ≡ sum_below (λ g. slice_index l.fours (l.x + 4 * g)) l.g) × (l.sum ≤ 17340 * l.g)
