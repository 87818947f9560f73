use Rattle.serve_hub.proofs.Journals.{joined_is}
use Rattle.serve_hub.proofs.laws.joined_law.Goals as goal

pub returns : goal.returns
returns c = joined_is
