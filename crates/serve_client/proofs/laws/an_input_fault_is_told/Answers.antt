use Rattle.serve_client.proofs.Told.{input_fault_is_told}
use Rattle.serve_client.proofs.laws.an_input_fault_is_told.Goals as goal

pub returns : goal.returns
returns c = input_fault_is_told
