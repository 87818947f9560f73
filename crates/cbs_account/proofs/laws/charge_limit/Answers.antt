use Rattle.cbs_account.proofs.Deadlines.{charge_limit_proof}
use Rattle.cbs_account.proofs.laws.charge_limit.Goals as goal

pub returns : goal.returns
returns c = charge_limit_proof
