use Rattle.std.proofs.Common.{◌≡◌, ◌+◌, ◌-◌, ◌*◌, ◌≤◌, ℕ, length, slice_index, arith, ap, sym, ◌∙◌}
use Rattle.std.proofs.lemmas.List.{length-take, length-drop}
use Rattle.std.proofs.lemmas.Nat.{row_fits}
use Rattle.frame_view.specs.Frame.{samples_of}
use Rattle.frame_view.specs.Rows.{sample}
use Rattle.filters.specs.declared.op.Op.TheVariants.{HFlip}
use Rattle.filters.specs.Image.{image_pixel}
use Rattle.filters.proofs.ReadRows.{row-sample}
use Rattle.filters.proofs.BlurRows.{row_written}
use Rattle.filters.proofs.rows.mirrored_rows.Goals as goal

pub loop-v-preserved : goal.loop-v-preserved
loop-v-preserved c =
    let g = c.args.source.now.geometry in
    let samples = samples_of c.args.source.now in
    let p = c.args.span.p in
    let w = c.args.span.columns in
    let y = c.args.span.from + c.loop-v.v in
    let row = c.row.result.now in
    let written = c.mirror_row.new.target in
    let fits : c.loop-v.v * w + w ≤ length c.loop-v.rows =
    omega (arith, row_fits c.loop-v.v w (c.args.span.to - c.args.span.from) w (omega arith) (omega arith)) in
    let wide : length written ≡ w = omega (arith, length-take {A = ℕ}, length-drop {A = ℕ}) in
    row_written (λ v x. image_pixel HFlip g samples p (c.args.span.from + v) x) w c.loop-v.v c.loop-v.rows written
    _
    wide (omega arith) c.loop-v.invariant
    (λ x h. c.mirror_row.ensures x (omega arith)
    ∙ ap (λ n. slice_index row (n - 1 - x)) (c.row.ensures.len ∙ sym c.requires.width)
    ∙ ap (λ s. slice_index s (w - 1 - x)) c.row.ensures.value
    ∙ row-sample g samples p y (w - 1 - x) (omega arith)
    ∙ ap (λ n. sample g samples p y (n - 1 - x)) c.requires.width)
