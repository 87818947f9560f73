use Rattle.serve_audit.proofs.Texts.{text_is}
use Rattle.serve_audit.proofs.laws.text_law.Goals as goal

pub returns : goal.returns
returns c = text_is
