use Rattle.std.proofs.Common.{◌≤◌, rules}
use Rattle.row_bands.proofs.Bands.{inside}
use Rattle.row_bands.specs.Band.{band_geometry}
use Rattle.row_bands.proofs.Written.{one_more_plane, lent_plane}
use Rattle.row_bands.proofs.painter.paint_band.Goals as goal

pub loop-p-preserved : goal.loop-p-preserved
loop-p-preserved g c =
    let band = c.loop-p.band in
    let old = c.args.band.now in
    let low : old.to ≤ (band_geometry band).height = rw c.loop-p.invariant.to at band.inside in
    record {
      same = c.loop-p.invariant.same;
      from = c.loop-p.invariant.from;
      to = c.loop-p.invariant.to;
      height = c.loop-p.invariant.height;
      rows = one_more_plane _ _ _ _ _ _ _ (λ q. inside (band_geometry band) q old.to low) c.loop-p.invariant.rows
          (rw (← c.loop-p.invariant.from, ← c.loop-p.invariant.to)
          (lent_plane _ band c.loop-p.p _ (search rules)
          (rw (← c.rows-from.ensures.from, ← c.rows-from.ensures.to) (search rules))));
    }
