use Rattle.cbs_account.proofs.LawProofs.{deadline_bound_proof}
use Rattle.cbs_account.proofs.laws.deadline_bound.Goals as goal

pub returns : goal.returns
returns c = deadline_bound_proof
