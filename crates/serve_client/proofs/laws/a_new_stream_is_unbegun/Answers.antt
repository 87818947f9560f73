use Rattle.serve_client.proofs.Crossing.{new_stream_is_unbegun}
use Rattle.serve_client.proofs.laws.a_new_stream_is_unbegun.Goals as goal

pub returns : goal.returns
returns c = new_stream_is_unbegun
