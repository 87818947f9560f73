use Rattle.std.proofs.Common.{rules}
use Rattle.frame_view.specs.Frame.{samples_of}
use Rattle.row_bands.specs.Bands.{luma_from, luma_to}
use Rattle.row_bands.specs.Band.{band_frame}
use Rattle.row_bands.specs.Canvas.{frame_of, height_of}
use Rattle.row_bands.specs.Written.{HasBand}
use Rattle.filters.specs.Image.{image_pixel}
use Rattle.filters.proofs.apply.apply_at.Goals as goal

pub returns-clause-rows : goal.returns-clause-rows
returns-clause-rows c =
    let lent = c.band_mut-band.ensures.band in
    let old = c.args.canvas.now in
    let written : HasBand (image_pixel c.args.op c.args.source.now.geometry (samples_of c.args.source.now))
    (luma_from (height_of old) c.args.k) (luma_to (frame_of old).geometry (height_of old) c.args.k)
    (frame_of old) (band_frame c.apply_band.new.band)
    = rw (lent.value, lent.from, lent.to) at c.apply_band.ensures.painted.band in
    search rules
