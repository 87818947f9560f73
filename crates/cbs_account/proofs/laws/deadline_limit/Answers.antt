use Rattle.cbs_account.proofs.Deadlines.{deadline_limit_proof}
use Rattle.cbs_account.proofs.laws.deadline_limit.Goals as goal

pub returns : goal.returns
returns c = deadline_limit_proof
