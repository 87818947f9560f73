use Rattle.cbs_account.proofs.LawProofs.{closed_form_proof}
use Rattle.cbs_account.proofs.laws.closed_form.Goals as goal

pub returns : goal.returns
returns c = closed_form_proof
