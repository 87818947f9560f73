use Rattle.std.proofs.Common.{◌+◌, ◌*◌, ◌/◌, ◌∙◌, slice_index, arith, ap}
use Rattle.filters.specs.Blur.{sum_below}
use Rattle.filters.proofs.BlurSums.{sum_of_bytes, written_more}
use Rattle.filters.proofs.blur.window.narrow_means.Goals as goal

pub mean-requires-clause-bytes : goal.mean-requires-clause-bytes
mean-requires-clause-bytes g c =
    let x = c.loop-x.x in
    let most =
    sum_of_bytes (λ k. slice_index c.args.columns.now k) x g.row.SIDE
    (λ j h. c.requires.squares.bytes (x + j) (omega arith)) in
    omega arith

pub loop-x-preserved : goal.loop-x-preserved
loop-x-preserved g c =
    let side = g.row.SIDE in
    let n = side * side in
    written_more (λ k. (sum_below (λ j. slice_index c.args.columns.now (k + j)) side + n / 2) / n)
    _ c.loop-x.x _ (omega arith) (c.mean.ensures ∙ ap (λ s. (s + n / 2) / n) c.columns_sum.ensures)
    c.loop-x.invariant
