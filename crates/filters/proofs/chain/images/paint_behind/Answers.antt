use Rattle.std.proofs.Common.{◌≡◌, ◌+◌, ◌-◌, ◌<◌, ℕ, List, length, drop, get_or, slice_set, arith, refl, ap}
use Rattle.std.proofs.Common.{sym, ◌∙◌}
use Rattle.std.proofs.lemmas.List.{get_or-set_same, get_or-drop, get_or_default, length-drop, take_all}
use Rattle.frame_view.specs.Frame.{line_of}
use Rattle.row_bands.specs.Canvas.{frame_of}
use Rattle.filters.specs.declared.op.Op.{Op}
use Rattle.filters.specs.declared.op.Op.TheVariants.{HFlip}
use Rattle.filters.specs.Chain.{format_of}
use Rattle.filters.specs.ChainImage.{FrameValue, IsImage, IsImageByAll, value_of}
use Rattle.filters.specs.Front.{front_of}
use Rattle.filters.proofs.ChainImages.{image_more, canvases_painted, lines_painted, lines_kept}
use Rattle.filters.proofs.Front.{front_format, in_last}
use Rattle.filters.proofs.chain.images.paint_behind.Goals as goal

-- operation m is the one with number i behind the first n
image_behind : (ops : List Op) (n m i : ℕ) (d : Op) (source image : FrameValue) → m ≡ n + i
    → IsImage (get_or ops m d) source image → IsImage (get_or (drop n ops) i d) source image
image_behind ops n m i d source image e is = rw (get_or-drop n ops i d, sym e) is

pub paint_at-requires-clause-reaches : goal.paint_at-requires-clause-reaches
paint_at-requires-clause-reaches c =
    let chain = c.args.chain.now in
    rw c.front-front.ensures.value
    (ap format_of c.requires.geometry ∙ sym (front_format chain.ops (format_of chain.geometry)))

pub paint_at-requires-clause-canvas : goal.paint_at-requires-clause-canvas
paint_at-requires-clause-canvas c =
    let same : front_of c.args.chain.now + 0 ≡ c.front-front.result =
    omega (arith, c.front-front.ensures.value) in
    rw same at (c.requires.canvases.each 0 c.index-canvases-0.result
    (omega (arith, ap length c.ops.ensures.value, c.requires.canvases.count)))

pub loop-i-init : goal.loop-i-init
loop-i-init c =
    let chain = c.args.chain.now in
    let front = c.front-front.result in
    let canvases = c.args.canvases.now in
    let behind = drop (front_of chain) chain.ops in
    let some : 0 < length canvases =
    omega (arith, ap length c.ops.ensures.value, c.requires.canvases.count, c.front-front.ensures.value) in
    let first : 0 < length behind = omega (arith, some, c.requires.canvases.count, length-drop {A = Op}) in
    let same : front_of chain + 0 ≡ front = omega (arith, c.front-front.ensures.value) in
    let painted = c.paint_at.new.canvas in
    record {
      canvases = canvases_painted canvases 0 painted some chain c.requires.canvases
          (rw same c.paint_at.ensures.canvas);
      lines = lines_painted canvases 0 painted some
          (λ d. c.paint_at.ensures.line
          ∙ ap (λ canvas. line_of (frame_of canvas)) (get_or_default _ 0 _ d some));
      by_all = λ d.
          let held : get_or (slice_set canvases 0 painted) 0 d ≡ painted =
          get_or-set_same canvases 0 painted d some in
          rw held (image_more behind _ _ _ 0 HFlip first refl
          (image_behind chain.ops (front_of chain) front 0 HFlip _ _ (sym same) (c.paint_at.ensures.image HFlip)));
    }

pub loop-i-preserved : goal.loop-i-preserved
loop-i-preserved c =
    let chain = c.args.chain.now in
    let front = c.front-front.result in
    let behind = drop (front_of chain) chain.ops in
    let within : c.loop-i.i < length behind =
    omega (arith, ap length c.ops.ensures.value, c.front-front.ensures.value, length-drop {A = Op}) in
    let so_far = c.loop-i.invariant in
    record {
      canvases = c.paint_next.ensures.canvases;
      lines = lines_kept _ _ _ so_far.lines c.paint_next.ensures.lines;
      by_all = λ d.
          let same : c.loop-i.i + 1 - 1 ≡ c.loop-i.i = omega arith in
          let at : front + c.loop-i.i ≡ front_of chain + c.loop-i.i =
          omega (arith, c.front-front.ensures.value) in
          rw same (image_more behind _ _ _ c.loop-i.i HFlip within (so_far.by_all d)
          (image_behind chain.ops (front_of chain) _ c.loop-i.i HFlip _ _ at (c.paint_next.ensures.image HFlip d)));
    }

pub returns-clause-image : goal.returns-clause-image
returns-clause-image c =
    let chain = c.args.chain.now in
    let behind = drop (front_of chain) chain.ops in
    let canvases = c.loop-i.canvases in
    let source = value_of c.args.source.now in
    let d = c.paint_at.new.canvas in
    let so_far = c.loop-i.invariant in
    let count : length canvases ≡ length behind =
    omega (arith, so_far.canvases.count, length-drop {A = Op}) in
    let all : c.loop-i.i ≡ length canvases =
    omega (arith, ap length c.ops.ensures.value, c.front-front.ensures.value, so_far.canvases.count) in
    let made : IsImageByAll behind source (value_of (frame_of (get_or canvases (length canvases - 1) d))) =
    rw (take_all (length canvases) behind (omega (arith, count))) at (rw all at (so_far.by_all d)) in
    rw (in_last c.args.source.now canvases d (omega (arith, all))) made
