use Rattle.serve_core.specs.Bare.{measures_any, is_any_image}
use Rattle.serve_core.specs.Frames.{measures, is_image}
use Rattle.serve_core.proofs.Events.Releases.{released_is}
use Rattle.serve_core.proofs.laws.admissions.released_law.Goals as goal

pub returns : goal.returns
returns c = record {
  of_frames = released_is measures is_image;
  bare = released_is measures_any is_any_image;
}
