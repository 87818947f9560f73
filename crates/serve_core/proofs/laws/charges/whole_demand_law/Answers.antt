use Rattle.serve_core.specs.Bare.{measures_any, is_any_image}
use Rattle.serve_core.specs.Frames.{measures, is_image}
use Rattle.serve_core.proofs.Charges.Lives.{whole_demand_is}
use Rattle.serve_core.proofs.laws.charges.whole_demand_law.Goals as goal

pub returns : goal.returns
returns c = record {
  of_frames = whole_demand_is measures is_image;
  bare = whole_demand_is measures_any is_any_image;
}
