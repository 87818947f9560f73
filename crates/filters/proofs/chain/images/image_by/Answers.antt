use Rattle.filters.proofs.ChainImages.{is_frame_line, format_next, image_at}
use Rattle.filters.proofs.chain.images.image_by.Goals as goal

pub new-requires : goal.new-requires
new-requires c = is_frame_line _ c.line.ensures.is_line

pub apply_op-requires-clause-image : goal.apply_op-requires-clause-image
apply_op-requires-clause-image c =
    c.op.ensures.image _ _ c.requires.reaches
    (rw (c.in_ok-canvas.ensures.frame.geometry) c.geometry_after.ensures)

pub returns-clause-image : goal.returns-clause-image
returns-clause-image c d =
    rw c.into_frame.ensures
    (image_at c.args.chain.now.ops c.args.i c.op.result d _ _ c.op.ensures.value c.apply_op.ensures.image)

pub returns-clause-format : goal.returns-clause-format
returns-clause-format c =
    rw c.into_frame.ensures
    (format_next c.args.chain.now c.args.i c.op.result c.args.source.now.geometry _ c.requires.op
    c.op.ensures.value c.requires.reaches c.apply_op.ensures.image.geometry)
