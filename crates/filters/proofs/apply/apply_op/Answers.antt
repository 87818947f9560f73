use Rattle.std.proofs.Common.{arith, ap, sym, ◌≡◌, ◌∙◌, subst}
use Rattle.frame_view.specs.declared.geometry.Geometry.{Geometry}
use Rattle.frame_view.specs.Frame.{samples_of}
use Rattle.row_bands.specs.Bands.{band_count}
use Rattle.row_bands.specs.Canvas.{frame_of, height_of}
use Rattle.filters.specs.Image.{image_pixel}
use Rattle.filters.specs.Chain.{IsImageGeometry}
use Rattle.filters.proofs.Applied.{next_band, all_bands}
use Rattle.filters.proofs.apply.apply_op.Goals as goal

pub loop-k-preserved : goal.loop-k-preserved
loop-k-preserved c =
    let before = c.loop-k.invariant in
    let band = c.apply_at.ensures.rows in
    let old = c.loop-k.canvas in
    let plan : c.count-k-end.result ≡ band_count (frame_of old).geometry (height_of old) =
    c.count-k-end.ensures.value
    ∙ ap (λ z. band_count z c.plan.result.height.rows) (c.plan.ensures.geometry ∙ sym before.geometry)
    ∙ ap (band_count (frame_of old).geometry) (c.plan.ensures.height ∙ sym before.height) in
    record {
      geometry = band.geometry ∙ before.geometry;
      line = band.line ∙ before.line;
      height = c.apply_at.ensures.height ∙ before.height;
      rows = next_band (image_pixel c.args.op c.args.source.now.geometry (samples_of c.args.source.now))
          (height_of old) (height_of c.apply_at.new.canvas) c.loop-k.k
          (frame_of old) (frame_of c.apply_at.new.canvas) (omega (arith, old.height.fewest))
          c.apply_at.ensures.height (omega arith) before.rows band;
    }

pub returns-clause-image : goal.returns-clause-image
returns-clause-image c =
    let before = c.loop-k.invariant in
    let canvas = c.loop-k.canvas in
    let frame = frame_of canvas in
    let plan : c.count-k-end.result ≡ band_count frame.geometry (height_of canvas) =
    c.count-k-end.ensures.value
    ∙ ap (λ z. band_count z c.plan.result.height.rows) (c.plan.ensures.geometry ∙ sym before.geometry)
    ∙ ap (band_count frame.geometry) (c.plan.ensures.height ∙ sym before.height) in
    let P : Geometry → Type 0 = λ z. IsImageGeometry c.args.op c.args.source.now.geometry z in
    record {
      geometry = subst P (sym before.geometry) c.requires.image;
      whole = omega (arith, frame.fits, frame.samples.ok);
      pixels = λ p y x place. all_bands
          (image_pixel c.args.op c.args.source.now.geometry (samples_of c.args.source.now)) frame
          (height_of canvas) c.loop-k.k
          (omega (arith, canvas.height.fewest)) (omega arith) before.rows p y x place.plane place.row
          place.column;
    }
