use Rattle.std.proofs.Common.{◌∙◌}
use Rattle.filters.proofs.ChainImages.{format_next, image_at}
use Rattle.filters.proofs.chain.images.paint_at.Goals as goal

pub apply_op-requires-clause-image : goal.apply_op-requires-clause-image
apply_op-requires-clause-image c = c.op.ensures.image _ _ c.requires.reaches c.requires.canvas.format

pub returns-clause-canvas : goal.returns-clause-canvas
returns-clause-canvas c = record {
  format =
      format_next c.args.chain.now c.args.i c.op.result c.args.source.now.geometry _ c.requires.op
      c.op.ensures.value c.requires.reaches c.apply_op.ensures.image.geometry;
  height = c.apply_op.ensures.height ∙ c.requires.canvas.height;
}

pub returns-clause-image : goal.returns-clause-image
returns-clause-image c d =
    image_at c.args.chain.now.ops c.args.i c.op.result d _ _ c.op.ensures.value c.apply_op.ensures.image
