use Rattle.std.proofs.Common.{◌≡◌, ◌+◌, ◌-◌, ◌*◌, ◌/◌, length, slice_index, arith, ap, ◌∙◌}
use Rattle.filters.specs.Blur.{clamped, side}
use Rattle.filters.proofs.BlurSums.{sum_below_same}
use Rattle.filters.proofs.blur.band.mean_row.Goals as goal

pub returns-clause-means : goal.returns-clause-means
returns-clause-means c x h =
    let r = c.args.radius in
    let columns = c.args.columns.now in
    let width = length c.args.target.now in
    let n = side r * side r in
    let terms =
    sum_below_same (λ j. slice_index c.repeat_ends.new.columns (x + j))
    (λ j. slice_index columns (r + clamped width r x j)) (side r)
    (λ j p.
    let place : clamped (length columns - 2 * r) r 0 (x + j) ≡ clamped width r x j = omega arith in
    c.repeat_ends.ensures (x + j) (omega arith) ∙ ap (λ k. slice_index columns (r + k)) place) in
    c.mean_squares.ensures x (omega arith) ∙ ap (λ s. (s + n / 2) / n) terms
