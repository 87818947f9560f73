use Rattle.serve_work.proofs.Histories.{epoch_demand_is}
use Rattle.serve_work.proofs.laws.epochs_keep_demand.Goals as goal

pub returns : goal.returns
returns c = epoch_demand_is c.whole_demand_law.ensures.bare
