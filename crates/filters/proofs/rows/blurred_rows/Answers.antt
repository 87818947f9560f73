use Rattle.std.proofs.Common.{◌≡◌, ◌+◌, arith, ap, ◌∙◌}
use Rattle.frame_view.specs.Places.{plane_height}
use Rattle.frame_view.specs.Frame.{samples_of}
use Rattle.filters.proofs.Blurred.{blurred_read}
use Rattle.filters.proofs.ReadRows.{rows_held}
use Rattle.filters.proofs.rows.blurred_rows.Goals as goal

pub returns : goal.returns
returns c =
    let g = c.args.source.now.geometry in
    let size = c.plane_size-size.result in
    let high : size.rows ≡ plane_height g c.args.span.p =
    c.plane_size-size.ensures.rows ∙ ap (λ z. plane_height z c.args.span.p) c.geometry.ensures in
    rows_held _ _ _ _ _ _ _ c.requires.span.width (omega arith) (λ v x h l.
    c.blur_rows.ensures v x h (omega arith)
    ∙ blurred_read g (samples_of c.args.source.now) c.rows-samples.result.now c.args.span.p c.args.span.columns
    size.rows c.args.blur.radius (c.args.span.from + v) x
    c.requires.span.width high c.rows-samples.ensures.value (omega arith) (omega arith))
