use Rattle.serve_work.proofs.Histories.{earliest_is}
use Rattle.serve_work.proofs.laws.each_lease_is_earliest.Goals as goal

pub returns : goal.returns
returns c = earliest_is
