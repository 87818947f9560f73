use Rattle.std.proofs.Common.{rules}
use Rattle.serve_core.proofs.setup.has_limits.Goals as goal

pub returns : goal.returns
returns c = search rules
