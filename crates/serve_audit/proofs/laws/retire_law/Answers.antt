use Rattle.serve_audit.proofs.Books.{retire_is}
use Rattle.serve_audit.proofs.laws.retire_law.Goals as goal

pub returns : goal.returns
returns c = retire_is
