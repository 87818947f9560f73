use Rattle.std.proofs.Common.{◌≡◌, length, arith, ap, sym, ◌∙◌}
use Rattle.std.proofs.lemmas.Option.{get_or_from_slice_get}
use Rattle.row_bands.specs.Canvas.{frame_of, height_of}
use Rattle.filters.specs.Chain.{format_of, format_at}
use Rattle.lease.proofs.Frames.{frame_last, last_at, last_reached, set_last, format_between}
use Rattle.lease.proofs.Writing.{writes, band_inside, halves_canvas}
use Rattle.lease.proofs.halves.halve_last.Goals as goal

pub apply_halves-requires-clause-image : goal.apply_halves-requires-clause-image
apply_halves-requires-clause-image g c κs within =
    let scratch = c.args.scratch.now in
    let reached : format_of c.input_of_step.result.now.geometry ≡ format_at c.args.chain.now (length scratch) =
    ap (λ frame. format_of frame.geometry)
    (c.input_of_step.ensures ∙ sym (last_reached c.args.source.now scratch c.args.canvas.now c.args.source.now))
    ∙ format_between _ _ scratch c.args.canvas.now
    (length scratch) c.args.source.now c.requires.canvases.source c.requires.canvases.scratch (omega arith) in
    c.op.ensures.image _ _ reached (last_at _ scratch _ c.requires.canvases.scratch c.requires.canvases.canvas).format

pub apply_halves-requires-clause-band : goal.apply_halves-requires-clause-band
apply_halves-requires-clause-band g c κs within =
    band_inside c.args.chain.now (length c.args.scratch.now) c.args.band c.args.canvas.now
    (omega (arith, c.requires.canvases.scratch.count))
    (last_at _ c.args.scratch.now _ c.requires.canvases.scratch c.requires.canvases.canvas) c.requires.band

pub returns-clause-written : goal.returns-clause-written
returns-clause-written g c =
    let source = c.args.source.now in
    let scratch = c.args.scratch.now in
    let old = c.args.canvas.now in
    writes c.args.chain.now (length scratch) c.args.band _ _ c.op.result (height_of old) c.input_of_step.result.now
    (frame_of old) (frame_of c.apply_halves.new.canvas)
    (λ d. get_or_from_slice_get c.args.chain.now.ops (length scratch) c.op.result d c.op.ensures.value)
    (λ d. last_reached source scratch old d ∙ sym c.input_of_step.ensures)
    (λ d. frame_last source scratch old d)
    c.requires.canvases.canvas.height
    (set_last source scratch old c.apply_halves.new.canvas) c.apply_halves.ensures.rows

pub returns-clause-noted : goal.returns-clause-noted
returns-clause-noted g c can =
    c.apply_halves.ensures.noted (halves_canvas c.args.chain.now _ _ c.args.canvas.now
    (last_at _ c.args.scratch.now _ c.requires.canvases.scratch c.requires.canvases.canvas) can)
