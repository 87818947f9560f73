use Rattle.std.proofs.Common.{◌≡◌}
use Rattle.row_bands.proofs.Written.{HasPlanes}
use Rattle.row_bands.specs.Band.{band_frame}
use Rattle.row_bands.specs.Canvas.{height_of}
use Rattle.row_bands.proofs.painter.paint_band.Given as goal

abbrev pub invariant-loop-p : goal.invariant-loop-p
invariant-loop-p g l = record {
  same : l.band.canvas.ghost_name ≡ l.fn.band.canvas.ghost_name;
  from : l.band.from ≡ l.fn.band.from;
  to : l.band.to ≡ l.fn.band.to;
  height : height_of l.band.canvas.now ≡ height_of l.fn.band.canvas.now;
  rows : HasPlanes (g.P.Painter.picture l.painter) l.fn.band.from l.fn.band.to l.p (band_frame l.fn.band) (band_frame l.band);
}
