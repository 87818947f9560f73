use Rattle.std.proofs.Common.{◌≡◌, ◌+◌, ◌-◌, ◌<◌, get_or, length, sym, ap, ◌∙◌, arith}
use Rattle.frame_view.specs.Frame.{line_of}
use Rattle.row_bands.specs.Canvas.{frame_of}
use Rattle.filters.specs.Chain.{format_of, format_at}
use Rattle.filters.specs.Front.{front_of}
use Rattle.filters.proofs.ChainImages.{canvases_painted, lines_painted, painted_rest, painted_at}
use Rattle.filters.proofs.ChainImages.{canvas_before, canvas_rest}
use Rattle.std.proofs.lemmas.List.{get_or_default}
use Rattle.filters.proofs.chain.images.paint_next.Goals as goal

pub paint_at-requires-clause-canvas : goal.paint_at-requires-clause-canvas
paint_at-requires-clause-canvas c =
    let parts = c.split_at_mut-done.ensures in
    let d = c.index-rest-0.result in
    rw c.requires.front
    (rw (canvas_rest _ _ c.args.canvases.now c.args.i d parts.value parts.front_len) at
    (c.requires.canvases.each c.args.i d c.requires.inside))

pub paint_at-requires-clause-reaches : goal.paint_at-requires-clause-reaches
paint_at-requires-clause-reaches c =
    let parts = c.split_at_mut-done.ensures in
    let chain = c.args.chain.now in
    let canvases = c.args.canvases.now in
    let d = c.index-done-i.result in
    let held : get_or canvases (c.args.i - 1) d ≡ d =
    canvas_before _ _ canvases c.args.i d d parts.value parts.front_len c.requires.not_first c.index-done-i.is in
    let source : c.frame.result.now ≡ frame_of (get_or canvases (c.args.i - 1) d) =
    c.frame.ensures ∙ ap frame_of (sym c.index-done-i.is ∙ sym held) in
    let before = c.requires.canvases.each (c.args.i - 1) d (omega (arith, c.requires.inside)) in
    let next : front_of chain + (c.args.i - 1) + 1 ≡ c.args.front + c.args.i =
    omega (arith, c.requires.front, c.requires.not_first) in
    ap (λ frame. format_of frame.geometry) source ∙ before.format ∙ ap (format_at chain) next

pub returns-clause-canvases : goal.returns-clause-canvases
returns-clause-canvases c =
    let parts = c.split_at_mut-done.ensures in
    let canvases = c.args.canvases.now in
    let within : c.args.i < length canvases = c.requires.inside in
    rw (painted_rest _ _ canvases c.args.i c.paint_at.new.canvas parts.value parts.front_len)
    (canvases_painted canvases c.args.i c.paint_at.new.canvas within c.args.chain.now c.requires.canvases
    (rw c.requires.front at c.paint_at.ensures.canvas))

pub returns-clause-lines : goal.returns-clause-lines
returns-clause-lines c =
    let parts = c.split_at_mut-done.ensures in
    let canvases = c.args.canvases.now in
    let within : c.args.i < length canvases = c.requires.inside in
    let first = c.index-rest-0.result in
    let before : get_or canvases c.args.i first ≡ get_or c.split_at_mut-done.result.1.now 0 first =
    canvas_rest _ _ canvases c.args.i first parts.value parts.front_len in
    rw (painted_rest _ _ canvases c.args.i c.paint_at.new.canvas parts.value parts.front_len)
    (lines_painted canvases c.args.i c.paint_at.new.canvas within
    (λ d. c.paint_at.ensures.line
    ∙ ap (λ canvas. line_of (frame_of canvas))
    (sym before ∙ get_or_default canvases c.args.i first d within)))

pub returns-clause-image : goal.returns-clause-image
returns-clause-image c o d =
    let parts = c.split_at_mut-done.ensures in
    let canvases = c.args.canvases.now in
    let within : c.args.i < length canvases = c.requires.inside in
    let held : get_or canvases (c.args.i - 1) d ≡ c.index-done-i.result =
    canvas_before _ _ canvases c.args.i c.index-done-i.result d parts.value parts.front_len c.requires.not_first
    c.index-done-i.is in
    let source : c.frame.result.now ≡ frame_of (get_or canvases (c.args.i - 1) d) =
    c.frame.ensures ∙ ap frame_of (sym c.index-done-i.is ∙ sym held) in
    rw (painted_at _ _ canvases c.args.i c.paint_at.new.canvas d parts.value parts.front_len within)
    (rw source at (c.paint_at.ensures.image o))
