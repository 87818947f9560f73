use Rattle.serve_client.proofs.Fronts.{a_front_went_out}
use Rattle.serve_client.proofs.laws.a_front_went_out.Goals as goal

pub returns : goal.returns
returns c = a_front_went_out
