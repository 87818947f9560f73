use Rattle.cbs_account.proofs.LawProofs.{bandwidth_proof}
use Rattle.cbs_account.proofs.laws.bandwidth.Goals as goal

pub returns : goal.returns
returns c = bandwidth_proof
