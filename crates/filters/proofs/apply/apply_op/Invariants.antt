use Rattle.std.proofs.Common.{◌≡◌, min}
use Rattle.frame_view.specs.Frame.{line_of, samples_of}
use Rattle.row_bands.specs.Bands.{luma_from}
use Rattle.row_bands.specs.Canvas.{frame_of, height_of}
use Rattle.row_bands.proofs.Written.{HasRowsAbove}
use Rattle.filters.specs.Image.{image_pixel}
use Rattle.filters.proofs.apply.apply_op.Given as goal

abbrev pub invariant-loop-k : goal.invariant-loop-k
invariant-loop-k l = record {
  geometry : (frame_of l.canvas).geometry ≡ (frame_of l.fn.canvas).geometry;
  line : line_of (frame_of l.canvas) ≡ line_of (frame_of l.fn.canvas);
  height : height_of l.canvas ≡ height_of l.fn.canvas;
  rows : HasRowsAbove (image_pixel l.op l.source.geometry (samples_of l.source))
      (min (frame_of l.canvas).geometry.height (luma_from (height_of l.canvas) l.k)) (frame_of l.canvas);
}
