use Rattle.std.proofs.Common.{◌≡◌, ◌+◌, ◌-◌, ◌*◌, ◌/◌, ◌≤◌, ◌<◌, ℕ, length, slice_index, arith, ap, ◌∙◌, take}
use Rattle.std.proofs.Common.{drop}
use Rattle.std.proofs.lemmas.List.{length-take, length-drop}
use Rattle.std.proofs.lemmas.Nat.{row_fits}
use Rattle.filters.specs.Blur.{sum_below, clamped, side, column_sum, blurred, pixel_of}
use Rattle.filters.proofs.BlurSums.{sum_below_most, sum_below_same}
use Rattle.filters.proofs.BlurRows.{row_written}
use Rattle.filters.proofs.blur.band.blur_band.Goals as goal

pub mean_row-requires-clause-bytes : goal.mean_row-requires-clause-bytes
mean_row-requires-clause-bytes g c x h =
    let plane = c.args.plane.now in
    let within : x < plane.width = omega (arith, length-take {A = ℕ}) in
    let y = c.args.from + c.loop-v.v in
    let at = c.loop-v.invariant.0 x within in
    let most =
    sum_below_most (λ i. pixel_of plane.samples.now plane.width (clamped plane.height c.args.plane.now.radius y i) x)
    255 (side c.args.plane.now.radius)
    (λ k p. plane.bytes (clamped plane.height c.args.plane.now.radius y k * plane.width + x)) in
    omega arith

pub loop-v-preserved : goal.loop-v-preserved
loop-v-preserved g c =
    let plane = c.args.plane.now in
    let r = c.args.plane.now.radius in
    let width = plane.width in
    let pixel = pixel_of plane.samples.now width in
    let n = side r * side r in
    let v = c.loop-v.v in
    let y = c.args.from + v in
    let columns = c.loop-v.columns in
    let fits : v * width + width ≤ length c.loop-v.target =
    omega (arith, row_fits v width (c.args.to - c.args.from) width (omega arith) (omega arith)) in
    let wide : length (take (v * width + width - v * width) (drop (v * width) c.loop-v.target)) ≡ width =
    omega (arith, length-take {A = ℕ}, length-drop {A = ℕ}) in (
      λ x h. c.next_columns.ensures x h ∙ ap (λ y. column_sum pixel plane.height r y x) (omega arith),
      row_written (λ v x. blurred pixel width plane.height r (c.args.from + v) x) width v c.loop-v.target
          c.mean_row.new.target _
          (omega arith) (omega arith) c.loop-v.invariant.1
          (λ x h.
          c.mean_row.ensures.means x (omega arith)
          ∙ ap (λ w. (sum_below (λ j. slice_index columns (r + clamped w r x j)) (side r) + n / 2) / n) wide
          ∙ ap (λ s. (s + n / 2) / n) (sum_below_same
          (λ j. slice_index columns (r + clamped width r x j))
          (λ j. column_sum pixel plane.height r y (clamped width r x j)) (side r)
          (λ j p. c.loop-v.invariant.0 (clamped width r x j) (omega arith)))),
    )
