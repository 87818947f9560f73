use Rattle.std.proofs.Common.{◌≡◌, ◌+◌, ◌-◌, ◌*◌, ◌≤◌, ℕ, length, slice_index, arith, ap, ◌∙◌}
use Rattle.std.proofs.lemmas.List.{length-take, length-drop}
use Rattle.std.proofs.lemmas.Nat.{row_fits}
use Rattle.frame_view.specs.Frame.{samples_of}
use Rattle.frame_view.specs.Rows.{sample}
use Rattle.y4m_header.specs.Chroma.{horizontal_divisor, vertical_divisor}
use Rattle.filters.specs.Pixel.{offset}
use Rattle.filters.specs.declared.op.Op.TheVariants.{Crop}
use Rattle.filters.specs.Image.{image_pixel}
use Rattle.frame_view.proofs.Places.{few_rows}
use Rattle.filters.proofs.ReadRows.{row-sample, part-sample}
use Rattle.filters.proofs.BlurRows.{row_written}
use Rattle.filters.proofs.Cropped.{columns_within, rows_within}
use Rattle.filters.proofs.rows.cropped_rows.Goals as goal

pub loop-v-preserved : goal.loop-v-preserved
loop-v-preserved c =
    let g = c.args.source.now.geometry in
    let samples = samples_of c.args.source.now in
    let p = c.args.span.p in
    let w = c.args.span.columns in
    let y = c.args.span.from + c.loop-v.v in
    let row = c.row-row.result.now in
    let written = c.copy_from_slice.new.self in
    let within = columns_within c.args.crop g c.args.target p c.requires.rectangle c.requires.image in
    let fits : c.loop-v.v * w + w ≤ length c.loop-v.rows =
    omega (arith, row_fits c.loop-v.v w (c.args.span.to - c.args.span.from) w (omega arith) (omega arith)) in
    let wide : length written ≡ w = omega (arith, length-take {A = ℕ}, length-drop {A = ℕ}) in
    row_written (λ v x. image_pixel (Crop c.args.crop) g samples p (c.args.span.from + v) x) w c.loop-v.v
    c.loop-v.rows written _
    wide (omega arith) c.loop-v.invariant
    (λ x h.
    let across =
    c.offsets-across.ensures.across
    ∙ ap (λ z. offset p c.args.crop.x (horizontal_divisor z.chroma)) c.geometry.ensures in
    let down =
    c.offsets-across.ensures.down
    ∙ ap (λ z. offset p c.args.crop.y (vertical_divisor z.chroma)) c.geometry.ensures in
    ap (λ s. slice_index s x) c.copy_from_slice.ensures.after
    ∙ part-sample row c.offsets-across.result.0 w x h
    ∙ ap (λ s. slice_index s (c.offsets-across.result.0 + x)) c.row-row.ensures.value
    ∙ row-sample g samples p (y + c.offsets-across.result.1) (c.offsets-across.result.0 + x) (omega arith)
    ∙ ap (λ n. sample g samples p (y + n) (c.offsets-across.result.0 + x)) down
    ∙ ap (sample g samples p (y + offset p c.args.crop.y (vertical_divisor g.chroma)))
    (let e : c.offsets-across.result.0 + x
    ≡ x + offset p c.args.crop.x (horizontal_divisor g.chroma) = omega arith in e))

pub overflow_add-span-in-loop-v : goal.overflow_add-span-in-loop-v
overflow_add-span-in-loop-v c =
    let g = c.args.source.now.geometry in
    let down =
    c.offsets-across.ensures.down
    ∙ ap (λ z. offset c.args.span.p c.args.crop.y (vertical_divisor z.chroma)) c.geometry.ensures in
    let within = rows_within c.args.crop g c.args.target c.args.span.p c.requires.rectangle c.requires.image in
    omega (arith, few_rows g c.args.span.p, within)

pub row-row-requires-clause-row : goal.row-row-requires-clause-row
row-row-requires-clause-row c =
    let g = c.args.source.now.geometry in
    let down =
    c.offsets-across.ensures.down
    ∙ ap (λ z. offset c.args.span.p c.args.crop.y (vertical_divisor z.chroma)) c.geometry.ensures in
    let within = rows_within c.args.crop g c.args.target c.args.span.p c.requires.rectangle c.requires.image in
    omega (arith, within)

pub slice_bounds-copy_from_slice-end-in-loop-v : goal.slice_bounds-copy_from_slice-end-in-loop-v
slice_bounds-copy_from_slice-end-in-loop-v c =
    let g = c.args.source.now.geometry in
    let across =
    c.offsets-across.ensures.across
    ∙ ap (λ z. offset c.args.span.p c.args.crop.x (horizontal_divisor z.chroma)) c.geometry.ensures in
    let within = columns_within c.args.crop g c.args.target c.args.span.p c.requires.rectangle c.requires.image in
    omega (arith, within, across)

pub slice_bounds-copy_from_slice-end : goal.slice_bounds-copy_from_slice-end
slice_bounds-copy_from_slice-end c =
    omega (
      arith,
      row_fits c.loop-v.v c.args.span.columns (c.args.span.to - c.args.span.from) c.args.span.columns (omega arith)
          (omega arith),
    )
