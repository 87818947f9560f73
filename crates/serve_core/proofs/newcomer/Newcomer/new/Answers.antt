use Rattle.std.proofs.Common.{rules}
use Rattle.serve_core.proofs.newcomer.Newcomer.new.Goals as goal

pub returns-then-not-is_within_limits-clause-refused : goal.returns-then-not-is_within_limits-clause-refused
returns-then-not-is_within_limits-clause-refused c = search rules

pub returns-in-Ok-clause-newcomer : goal.returns-in-Ok-clause-newcomer
returns-in-Ok-clause-newcomer c = search rules

pub returns-in-Err-clause-returns_spec : goal.returns-in-Err-clause-returns_spec
returns-in-Err-clause-returns_spec c = search rules
