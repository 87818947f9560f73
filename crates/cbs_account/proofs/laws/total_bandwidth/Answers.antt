use Rattle.cbs_account.proofs.Shares.{total_bandwidth_proof}
use Rattle.cbs_account.proofs.laws.total_bandwidth.Goals as goal

pub returns : goal.returns
returns c = total_bandwidth_proof
