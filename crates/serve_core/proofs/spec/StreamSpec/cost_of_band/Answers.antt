use Rattle.serve_core.specs.Setup.{costs}
use Rattle.serve_core.proofs.Schedules.Jobs.{band_cost}
use Rattle.serve_core.proofs.spec.StreamSpec.cost_of_band.Goals as goal

pub returns : goal.returns
returns c = band_cost (costs c.args.self.now) c.args.k _ (cc)
