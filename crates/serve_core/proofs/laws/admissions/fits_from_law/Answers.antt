use Rattle.serve_core.specs.Bare.{measures_any, is_any_image}
use Rattle.serve_core.specs.Frames.{measures, is_image}
use Rattle.serve_core.proofs.Events.Releases.{fits_from}
use Rattle.serve_core.proofs.laws.admissions.fits_from_law.Goals as goal

pub returns : goal.returns
returns c = record {
  of_frames = fits_from measures is_image;
  bare = fits_from measures_any is_any_image;
}
