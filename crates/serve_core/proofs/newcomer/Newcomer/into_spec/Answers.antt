use Rattle.std.proofs.Common.{rules}
use Rattle.serve_core.proofs.newcomer.Newcomer.into_spec.Goals as goal

pub returns : goal.returns
returns c = search rules
