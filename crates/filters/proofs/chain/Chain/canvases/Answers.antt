use Rattle.std.proofs.Common.{◌≡◌, ◌+◌, arith, ap, ◌∙◌, length-append}
use Rattle.frame_view.specs.Frame.{line_of}
use Rattle.row_bands.specs.Canvas.{frame_of}
use Rattle.filters.specs.ChainImage.{IsCanvasAt}
use Rattle.filters.specs.Front.{front_of}
use Rattle.filters.proofs.ChainImages.{canvases_more}
use Rattle.filters.proofs.chain.Chain.canvases.Goals as goal

pub loop-i-preserved : goal.loop-i-preserved
loop-i-preserved c =
    let chain = c.args.self.now in
    let pushed = c.in_ok-push.ensures.items in
    let so_far = c.loop-i.invariant in
    let made = c.in_ok-canvas.ensures.frame in
    let size = rw c.front-front.ensures.value at c.geometry_after-output.ensures in
    record {
      count = rw (pushed, length-append) (omega (arith, so_far.count));
      each = canvases_more (λ k. IsCanvasAt chain (front_of chain + k)) _ _ _ c.loop-i.i so_far.count pushed
          so_far.each
          (record {
            format = rw made.geometry size;
            height = c.in_ok-canvas.ensures.height ∙ ap (λ b. b.rows) c.band_height.ensures;
          });
      lines = canvases_more (λ k canvas. line_of (frame_of canvas) ≡ c.args.line.now) _ _ _ c.loop-i.i
          so_far.count pushed so_far.lines made.line;
    }
