use Rattle.std.proofs.Common.{◌+◌, ◌-◌, ◌*◌, ◌<◌, ◌≤◌, length, map, slice_index, arith, ap, ◌∙◌}
use Rattle.std.proofs.Math.Nat.{mul-le-mul_right}
use Rattle.std.proofs.lemmas.List.{get_or-map}
use Rattle.frame_view.specs.Places.{plane_width}
use Rattle.frame_view.specs.Frame.{samples_of}
use Rattle.filters.specs.Pixel.{entry}
use Rattle.filters.proofs.ReadRows.{run-sample, rows_held}
use Rattle.filters.proofs.rows.table_rows.Goals as goal

pub returns : goal.returns
returns c =
    let g = c.args.source.now.geometry in
    let p = c.args.span.p in
    let w = plane_width g p in
    let width = c.requires.width in
    rows_held _ _ _ _ _ _ _ width (omega arith) (λ v x h l.
    let more : (v + 1) * w ≤ (c.args.span.to - c.args.span.from) * w =
    mul-le-mul_right {m = v + 1} {n = c.args.span.to - c.args.span.from} w (omega arith) in
    let within : v * w + x < length c.rows.result.now = omega arith in
    ap (λ s. slice_index s (v * c.args.span.columns + x)) c.table_row.ensures
    ∙ ap (λ k. slice_index (map (entry c.args.table p) c.rows.result.now) (v * k + x)) width
    ∙ get_or-map (entry c.args.table p) c.rows.result.now (v * w + x) 0 0 within
    ∙ ap (entry c.args.table p)
    (ap (λ s. slice_index s (v * w + x)) c.rows.ensures.value
    ∙ run-sample g (samples_of c.args.source.now) p c.args.span.from c.args.span.to v x h (omega arith)))
