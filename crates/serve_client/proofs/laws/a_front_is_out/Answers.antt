use Rattle.serve_client.proofs.Pauses.{a_front_is_out}
use Rattle.serve_client.proofs.laws.a_front_is_out.Goals as goal

pub returns : goal.returns
returns c = a_front_is_out
