use Rattle.serve_core.specs.Bare.{measures_any, is_any_image}
use Rattle.serve_core.specs.Frames.{measures, is_image}
use Rattle.serve_core.proofs.Events.Leased.{lent_is}
use Rattle.serve_core.proofs.laws.charges.lent_law.Goals as goal

pub returns : goal.returns
returns c = record {
  of_frames = lent_is measures is_image;
  bare = lent_is measures_any is_any_image;
}
