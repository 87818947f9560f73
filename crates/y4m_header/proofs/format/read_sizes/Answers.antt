use Rattle.std.proofs.Common.{rules}
use Rattle.y4m_header.proofs.format.read_sizes.Goals as goal

pub returns-then-has_repeat-clause-refused : goal.returns-then-has_repeat-clause-refused
returns-then-has_repeat-clause-refused c = search rules
