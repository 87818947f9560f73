use Rattle.serve_client.proofs.Texts.{input_is_served}
use Rattle.serve_client.proofs.laws.the_input_is_served.Goals as goal

pub returns : goal.returns
returns c = input_is_served
