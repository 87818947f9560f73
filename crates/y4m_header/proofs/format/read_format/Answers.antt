use Rattle.std.proofs.Common.{rules}
use Rattle.y4m_header.proofs.format.read_format.Goals as goal

pub returns-then-not-is_within_limits-clause-refused : goal.returns-then-not-is_within_limits-clause-refused
returns-then-not-is_within_limits-clause-refused c = search rules
