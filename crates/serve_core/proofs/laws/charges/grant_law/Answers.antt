use Rattle.serve_core.proofs.Bands.Grants.{grant_is}
use Rattle.serve_core.proofs.laws.charges.grant_law.Goals as goal

pub returns : goal.returns
returns c = grant_is
