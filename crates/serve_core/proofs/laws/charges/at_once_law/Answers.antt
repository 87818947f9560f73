use Rattle.serve_core.specs.Bare.{measures_any, is_any_image}
use Rattle.serve_core.specs.Frames.{measures, is_image}
use Rattle.serve_core.proofs.Charges.AtOnce.{at_once_is}
use Rattle.serve_core.proofs.laws.charges.at_once_law.Goals as goal

pub returns : goal.returns
returns c = record {
  of_frames = at_once_is measures is_image;
  bare = at_once_is measures_any is_any_image;
}
