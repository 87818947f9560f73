use Rattle.std.proofs.Common.{rules, refl}
use Rattle.row_bands.specs.Band.{band_frame}
use Rattle.row_bands.proofs.Filled.{both_parts}
use Rattle.row_bands.proofs.halves.paint_halves.Goals as goal

pub returns-clause-painted : goal.returns-clause-painted
returns-clause-painted g c =
    let band = c.args.band.now in
    record {
      from = refl;
      to = refl;
      height = refl;
      band = both_parts (g.P.Painter.picture c.args.painter.now) (g.P.Painter.paint_gives c.args.painter.now) band.from
          c.args.row band.to (band_frame band)
          c.paint_parts.new.samples c.requires.row.0 c.requires.row.1 band.inside (search rules) (search rules);
    }
