use Rattle.std.proofs.Common.{◌≡◌, ◌+◌, ◌<◌, ℕ, length, get_or}
use Rattle.frame_view.specs.Frame.{line_of}
use Rattle.row_bands.specs.declared.canvas.Canvas.{Canvas}
use Rattle.row_bands.specs.Canvas.{frame_of}
use Rattle.filters.specs.ChainImage.{IsCanvasAt}
use Rattle.filters.specs.Front.{front_of}
use Rattle.filters.proofs.chain.Chain.canvases.Given as goal

abbrev pub invariant-loop-i : goal.invariant-loop-i
invariant-loop-i l = record {
  count : length l.canvases.items ≡ l.i;
  each : (k : ℕ) (d : Canvas) → k < l.i
      → IsCanvasAt l.self (front_of l.self + k) (get_or l.canvases.items k d);
  lines : (k : ℕ) (d : Canvas) → k < l.i → line_of (frame_of (get_or l.canvases.items k d)) ≡ l.line;
}
