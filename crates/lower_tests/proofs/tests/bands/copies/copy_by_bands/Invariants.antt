use Rattle.std.proofs.Common.{◌≡◌}
use Rattle.row_bands.specs.Canvas.{frame_of, height_of}
use Rattle.lower_tests.proofs.tests.bands.copies.copy_by_bands.Given as goal

abbrev pub invariant-loop-k : goal.invariant-loop-k
invariant-loop-k g l = record {
  geometry : (frame_of l.canvas).geometry ≡ (frame_of l.initial.canvas).geometry;
  height : height_of l.canvas ≡ height_of l.initial.canvas;
}
