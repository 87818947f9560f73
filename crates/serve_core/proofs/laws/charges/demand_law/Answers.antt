use Rattle.serve_core.specs.Bare.{measures_any, is_any_image}
use Rattle.serve_core.specs.Frames.{measures, is_image}
use Rattle.serve_core.proofs.Charges.Demands.{demand_is}
use Rattle.serve_core.proofs.laws.charges.demand_law.Goals as goal

pub returns : goal.returns
returns c = record {
  of_frames = demand_is measures is_image;
  bare = demand_is measures_any is_any_image;
}
