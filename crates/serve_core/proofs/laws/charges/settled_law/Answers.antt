use Rattle.serve_core.specs.Bare.{measures_any, is_any_image}
use Rattle.serve_core.specs.Frames.{measures, is_image}
use Rattle.serve_core.proofs.Charges.AtOnce.{settled_is}
use Rattle.serve_core.proofs.laws.charges.settled_law.Goals as goal

pub returns : goal.returns
returns c = record {
  of_frames = settled_is measures is_image;
  bare = settled_is measures_any is_any_image;
}
