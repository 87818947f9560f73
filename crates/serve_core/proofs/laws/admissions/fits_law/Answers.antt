use Rattle.serve_core.specs.Bare.{measures_any, is_any_image}
use Rattle.serve_core.specs.Frames.{measures, is_image}
use Rattle.serve_core.proofs.Events.Releases.{fits_is}
use Rattle.serve_core.proofs.laws.admissions.fits_law.Goals as goal

pub returns : goal.returns
returns c = record {
  of_frames = fits_is measures is_image;
  bare = fits_is measures_any is_any_image;
}
