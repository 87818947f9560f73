use Rattle.std.proofs.Common.{◌≡◌, arith, ap, sym, ◌∙◌}
use Rattle.std.proofs.lemmas.Option.{get_or_from_slice_get}
use Rattle.row_bands.specs.Canvas.{frame_of}
use Rattle.filters.specs.Chain.{format_of, format_at}
use Rattle.filters.proofs.ChainImages.{canvas_rest, painted_rest}
use Rattle.lease.proofs.Frames.{frame_between, part_reached, format_reached, set_between}
use Rattle.lease.proofs.Writing.{writes, band_inside, halves_canvas, same_size, scratch_set, rest_is, rest_line}
use Rattle.lease.proofs.halves.halve_between.Goals as goal
use Rattle.lease.proofs.halves.halve_between.Given.{Over}

-- what reaches the operation
reached_format : (g : Over) (c : goal.After-index-rest-0 g)
    → format_of c.input_of_step.result.now.geometry ≡ format_at c.args.chain.now c.args.op
reached_format g c =
    let parts = c.split_at_mut-before.ensures in
    ap (λ frame. format_of frame.geometry) c.input_of_step.ensures
    ∙ format_reached _ _ c.args.scratch.now _ _ c.args.op c.index-rest-0.result c.requires.between.source
    c.requires.between.scratch parts.value parts.front_len (omega (arith, c.requires.between.op))

pub apply_halves-requires-clause-doable : goal.apply_halves-requires-clause-doable
apply_halves-requires-clause-doable g c κs within =
    c.op.ensures.doable c.input_of_step.result.now.geometry (reached_format g c)

pub apply_halves-requires-clause-image : goal.apply_halves-requires-clause-image
apply_halves-requires-clause-image g c κs within =
    let parts = c.split_at_mut-before.ensures in
    let old =
    rest_is _ _ _ _ c.args.op c.index-rest-0.result c.requires.between.scratch c.requires.between.op parts.value
    parts.front_len in
    c.op.ensures.image c.input_of_step.result.now.geometry _ (reached_format g c) old.format

pub apply_halves-requires-clause-band : goal.apply_halves-requires-clause-band
apply_halves-requires-clause-band g c κs within =
    let parts = c.split_at_mut-before.ensures in
    let old =
    rest_is _ _ _ _ c.args.op c.index-rest-0.result c.requires.between.scratch c.requires.between.op parts.value
    parts.front_len in
    band_inside c.args.chain.now c.args.op c.args.band _
    (omega (arith, c.requires.between.op, c.requires.between.scratch.count)) old c.requires.between.band

pub returns-clause-scratch : goal.returns-clause-scratch
returns-clause-scratch g c =
    let parts = c.split_at_mut-before.ensures in
    let band = c.apply_halves.ensures.rows in
    let op = c.args.op in
    let canvas = c.apply_halves.new.canvas in
    let old =
    rest_is _ _ _ _ op c.index-rest-0.result c.requires.between.scratch c.requires.between.op parts.value parts.front_len in
    let line =
    rest_line _ _ _ _ op c.index-rest-0.result c.requires.between.scratch c.requires.between.op parts.value parts.front_len in
    rw (painted_rest _ _ c.args.scratch.now op canvas parts.value parts.front_len)
    (scratch_set _ _ op canvas c.requires.between.scratch c.requires.between.op
    (same_size _ _ _ canvas old band.geometry c.apply_halves.ensures.height)
    (band.line ∙ line))

pub returns-clause-written : goal.returns-clause-written
returns-clause-written g c last =
    let parts = c.split_at_mut-before.ensures in
    let source = c.args.source.now in
    let scratch = c.args.scratch.now in
    let op = c.args.op in
    let canvas = c.apply_halves.new.canvas in
    let old =
    rest_is _ _ _ _ op c.index-rest-0.result c.requires.between.scratch c.requires.between.op parts.value parts.front_len in
    let at = canvas_rest _ _ scratch op c.index-rest-0.result parts.value parts.front_len in
    rw (painted_rest _ _ scratch op canvas parts.value parts.front_len)
    (writes c.args.chain.now op c.args.band _ _ c.op.result _ c.input_of_step.result.now _ (frame_of canvas)
    (λ d. get_or_from_slice_get c.args.chain.now.ops op c.op.result d c.op.ensures.value)
    (λ d. part_reached source scratch _ _ last op d parts.value parts.front_len ∙ sym c.input_of_step.ensures)
    (λ d. frame_between source scratch last op d c.index-rest-0.result c.requires.between.op ∙ ap frame_of at)
    old.height (set_between source scratch last op canvas c.requires.between.op) c.apply_halves.ensures.rows)

pub returns-clause-noted : goal.returns-clause-noted
returns-clause-noted g c can =
    let parts = c.split_at_mut-before.ensures in
    let old =
    rest_is _ _ _ _ c.args.op c.index-rest-0.result c.requires.between.scratch c.requires.between.op parts.value
    parts.front_len in
    c.apply_halves.ensures.noted (halves_canvas c.args.chain.now _ _ _ old can)
