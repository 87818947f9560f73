use Rattle.std.proofs.Common.{◌≡◌, ◌+◌, ◌*◌, ◌/◌, ◌<◌, ℕ, slice_index}
use Rattle.filters.specs.Blur.{sum_below}
use Rattle.filters.proofs.blur.window.wide_means.Given as goal

abbrev pub invariant-loop-x : goal.invariant-loop-x
invariant-loop-x g l =
    (k : ℕ) → k < l.x → slice_index l.target k
    ≡ (sum_below (λ j. slice_index l.columns (k + j)) g.row.SIDE + g.row.SIDE * g.row.SIDE / 2)
    / (g.row.SIDE * g.row.SIDE)
