use Rattle.y4m_header.proofs.HeaderFacts.{header_from_invariant}
use Rattle.y4m_header.proofs.header.Header.chroma.Goals as goal

pub returns-clause-divided : goal.returns-clause-divided
returns-clause-divided c = rw (← c.self.view_is) ((header_from_invariant _ _ _ _ c.self.invariant).divided)

pub returns-clause-limits : goal.returns-clause-limits
returns-clause-limits c = rw (← c.self.view_is) ((header_from_invariant _ _ _ _ c.self.invariant).limits)
