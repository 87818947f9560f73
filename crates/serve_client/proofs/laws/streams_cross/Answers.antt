use Rattle.serve_client.proofs.Crossing.{streams_cross}
use Rattle.serve_client.proofs.laws.streams_cross.Goals as goal

pub returns : goal.returns
returns c = streams_cross
