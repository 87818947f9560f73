use Rattle.std.proofs.Common.{◌≡◌, ◌+◌, ◌-◌, ◌*◌, ◌≤◌, ℕ, length, slice_index, arith, ap, ◌∙◌}
use Rattle.std.proofs.lemmas.List.{length-take, length-drop}
use Rattle.std.proofs.lemmas.Nat.{row_fits}
use Rattle.frame_view.specs.Places.{plane_height}
use Rattle.frame_view.specs.Frame.{samples_of}
use Rattle.frame_view.specs.Rows.{sample}
use Rattle.filters.specs.declared.op.Op.TheVariants.{VFlip}
use Rattle.filters.specs.Image.{image_pixel}
use Rattle.filters.proofs.ReadRows.{row-sample}
use Rattle.filters.proofs.BlurRows.{row_written}
use Rattle.filters.proofs.rows.opposite_rows.Goals as goal

pub loop-v-preserved : goal.loop-v-preserved
loop-v-preserved c =
    let g = c.args.source.now.geometry in
    let samples = samples_of c.args.source.now in
    let p = c.args.span.p in
    let w = c.args.span.columns in
    let y = c.args.span.from + c.loop-v.v in
    let row = c.row.result.now in
    let written = c.copy_from_slice.new.self in
    let fits : c.loop-v.v * w + w ≤ length c.loop-v.rows =
    omega (arith, row_fits c.loop-v.v w (c.args.span.to - c.args.span.from) w (omega arith) (omega arith)) in
    let wide : length written ≡ w = omega (arith, length-take {A = ℕ}, length-drop {A = ℕ}) in
    row_written (λ v x. image_pixel VFlip g samples p (c.args.span.from + v) x) w c.loop-v.v c.loop-v.rows written
    _
    wide (omega arith) c.loop-v.invariant
    (λ x h. ap (λ s. slice_index s x) (c.copy_from_slice.ensures.after ∙ c.row.ensures.value)
    ∙ row-sample g samples p _ x (omega arith)
    ∙ ap (λ n. sample g samples p (n - 1 - y) x)
    (c.plane_size-last.ensures.rows ∙ ap (λ z. plane_height z p) c.geometry.ensures))
