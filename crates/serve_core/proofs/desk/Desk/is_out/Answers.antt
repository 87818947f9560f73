use Rattle.std.proofs.Common.{rules}
use Rattle.serve_core.proofs.desk.Desk.is_out.Goals as goal

pub returns : goal.returns
returns c = search rules
