use Rattle.y4m_header.proofs.HeaderFacts.{header_from_invariant}
use Rattle.y4m_header.proofs.header.Header.line.Goals as goal

pub returns-clause-is_header : goal.returns-clause-is_header
returns-clause-is_header c = rw (← c.self.view_is) (header_from_invariant _ _ _ _ c.self.invariant)
