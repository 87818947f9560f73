use Rattle.std.proofs.Common.{arith}
use Rattle.filters.specs.Front.{front_of}
use Rattle.filters.proofs.ChainImages.{images_parted}
use Rattle.filters.proofs.Front.{line_held}
use Rattle.filters.proofs.chain.Chain.apply_into.Goals as goal

pub returns-clause-image : goal.returns-clause-image
returns-clause-image c = record {
  line = line_held c.args.source.now c.apply_front.new.frame c.args.canvases.now c.paint_behind.new.canvases
      (omega (arith, c.requires.canvases.count, c.paint_behind.ensures.canvases.count))
      c.apply_front.ensures.line c.paint_behind.ensures.lines c.requires.line;
  by_all = images_parted c.args.self.now.ops (front_of c.args.self.now) _ _ _
      c.apply_front.ensures.image c.paint_behind.ensures.image;
}
