use Rattle.std.proofs.Common.{rules}
use Rattle.row_bands.specs.HalvesInside.{GivesRows}
use Rattle.row_bands.proofs.Filled.{has_parts}
use Rattle.row_bands.proofs.part.paint_parts.Goals as goal

pub returns-clause-parts : goal.returns-clause-parts
returns-clause-parts g c =
    let part = c.args.part in
    has_parts (GivesRows (g.P.Painter.picture c.args.painter.now) (g.P.Painter.paint_gives c.args.painter.now)
    part.geometry) part.from c.args.row part.to part.geometry c.args.samples.now _
    c.split_at_mut-luma.result.0.now c.split_at_mut-cb.result.0.now c.split_at_mut-cr.result.0.now c.split_at_mut-cr.result.1.now
    c.paint_runs.new.luma c.paint_runs.new.cb c.paint_runs.new.cr c.paint_runs.new.alpha
    c.requires.row.0 c.requires.row.1 part.inside (search rules) (search rules) (search rules) (search rules) (search rules)
    (search rules) (search rules) (search rules) (search rules) (search rules) c.paint_runs.ensures.parts.top c.paint_runs.ensures.parts.bottom
