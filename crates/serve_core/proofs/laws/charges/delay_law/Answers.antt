use Rattle.serve_core.specs.Bare.{measures_any, is_any_image}
use Rattle.serve_core.specs.Frames.{measures, is_image}
use Rattle.serve_core.proofs.Charges.Demands.{delay_is}
use Rattle.serve_core.proofs.laws.charges.delay_law.Goals as goal

pub returns : goal.returns
returns c = record {
  of_frames = delay_is measures is_image c.bandwidth.ensures;
  bare = delay_is measures_any is_any_image c.bandwidth.ensures;
}
