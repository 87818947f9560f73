use Rattle.std.proofs.Common.{◌≡◌, arith, ap, ◌∙◌, length-append, codes}
use Rattle.frame_view.specs.Frame.{line_of}
use Rattle.row_bands.specs.Canvas.{frame_of}
use Rattle.filters.specs.ChainImage.{IsCanvasAt}
use Rattle.lease.proofs.Lists.{each_more}
use Rattle.lease.proofs.scratch.Scratch.new.Goals as goal

pub loop-i-preserved : goal.loop-i-preserved
loop-i-preserved c =
    let pushed = c.in_ok-push.ensures.items in
    let so_far = c.loop-i.invariant in
    let made = c.in_ok-canvas.ensures.frame in
    let canvas : IsCanvasAt c.chain-chain.result.now c.loop-i.i c.in_ok-canvas.canvas = record {
      format = rw made.geometry c.geometry_after-geometry.ensures;
      height = c.in_ok-canvas.ensures.height ∙ ap (λ b. b.rows) c.band_height.ensures;
    } in
    record {
      count = rw (pushed, length-append) (omega (arith, so_far.count));
      each = each_more
          (IsCanvasAt c.args.spec.now) _ _ _ c.loop-i.i so_far.count pushed
          so_far.each
          (rw c.chain-chain.ensures at canvas);
      lines = each_more
          (λ _ canvas. line_of (frame_of canvas) ≡ codes "FRAME") _ _ _ c.loop-i.i so_far.count pushed
          so_far.lines made.line;
    }
