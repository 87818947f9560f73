use Rattle.std.proofs.Common.{subst}
use Rattle.std.proofs.Math.Logic.{∥∥₁_elim}
use Rattle.filters.specs.declared.op.Op.TheVariants.{Table, HFlip, VFlip, Blur}
use Rattle.filters.specs.Chain.{IsImageGeometry}
use Rattle.filters.specs.Ops.{IsDoable}
use Rattle.filters.proofs.Doable.{IsDoable-prop}
use Rattle.filters.proofs.KeptRows.{kept_rows, kept_span}
use Rattle.filters.proofs.painter.ImagePainterPainter.paint.Goals as goal

pub table_rows-requires : goal.table_rows-requires
table_rows-requires c =
    let painter = c.args.self.now in
    let image : IsImageGeometry (Table c.in-Table.table) painter.source.now.geometry painter.target =
    rw c.in-Table.is at painter.image in
    kept_span _ _ _ _ image.format c.requires.plane c.requires.order c.requires.inside
    c.plane_size-columns.ensures.columns c.requires.len

pub returns-in-Table-clause-rows : goal.returns-in-Table-clause-rows
returns-in-Table-clause-rows c =
    let painter = c.args.self.now in
    let image : IsImageGeometry (Table c.in-Table.table) painter.source.now.geometry painter.target =
    rw c.in-Table.is at painter.image in
    kept_rows _ _ _ _ _ _ _ _ _ c.in-Table.is image.format c.table_rows.ensures

pub mirrored_rows-requires : goal.mirrored_rows-requires
mirrored_rows-requires c =
    let painter = c.args.self.now in
    let image : IsImageGeometry HFlip painter.source.now.geometry painter.target =
    rw c.in-HFlip.is at painter.image in
    kept_span _ _ _ _ image.format c.requires.plane c.requires.order c.requires.inside
    c.plane_size-columns.ensures.columns c.requires.len

pub returns-in-HFlip-clause-rows : goal.returns-in-HFlip-clause-rows
returns-in-HFlip-clause-rows c =
    let painter = c.args.self.now in
    let image : IsImageGeometry HFlip painter.source.now.geometry painter.target =
    rw c.in-HFlip.is at painter.image in
    kept_rows _ _ _ _ _ _ _ _ _ c.in-HFlip.is image.format c.mirrored_rows.ensures

pub opposite_rows-requires : goal.opposite_rows-requires
opposite_rows-requires c =
    let painter = c.args.self.now in
    let image : IsImageGeometry VFlip painter.source.now.geometry painter.target =
    rw c.in-VFlip.is at painter.image in
    kept_span _ _ _ _ image.format c.requires.plane c.requires.order c.requires.inside
    c.plane_size-columns.ensures.columns c.requires.len

pub returns-in-VFlip-clause-rows : goal.returns-in-VFlip-clause-rows
returns-in-VFlip-clause-rows c =
    let painter = c.args.self.now in
    let image : IsImageGeometry VFlip painter.source.now.geometry painter.target =
    rw c.in-VFlip.is at painter.image in
    kept_rows _ _ _ _ _ _ _ _ _ c.in-VFlip.is image.format c.opposite_rows.ensures

pub blurred_rows-requires-clause-span : goal.blurred_rows-requires-clause-span
blurred_rows-requires-clause-span c =
    let painter = c.args.self.now in
    let image : IsImageGeometry (Blur c.in-Blur.blur) painter.source.now.geometry painter.target =
    rw c.in-Blur.is at painter.image in
    kept_span _ _ _ _ image.format c.requires.plane c.requires.order c.requires.inside
    c.plane_size-columns.ensures.columns c.requires.len

pub returns-in-Blur-clause-rows : goal.returns-in-Blur-clause-rows
returns-in-Blur-clause-rows c =
    let painter = c.args.self.now in
    let image : IsImageGeometry (Blur c.in-Blur.blur) painter.source.now.geometry painter.target =
    rw c.in-Blur.is at painter.image in
    kept_rows _ _ _ _ _ _ _ _ _ c.in-Blur.is image.format c.blurred_rows.ensures

pub cropped_rows-requires-clause-rectangle : goal.cropped_rows-requires-clause-rectangle
cropped_rows-requires-clause-rectangle c =
    let painter = c.args.self.now in
    subst (λ op. IsDoable op painter.source.now.geometry) c.in-Crop.is
    (∥∥₁_elim painter.doable (IsDoable-prop painter.op painter.source.now.geometry) (λ fits. fits))

pub blurred_rows-requires-clause-radius : goal.blurred_rows-requires-clause-radius
blurred_rows-requires-clause-radius c =
    let painter = c.args.self.now in
    subst (λ op. IsDoable op painter.source.now.geometry) c.in-Blur.is
    (∥∥₁_elim painter.doable (IsDoable-prop painter.op painter.source.now.geometry) (λ fits. fits))
