use Rattle.y4m_header.proofs.HeaderFacts.{header_from_invariant, size_positive}
use Rattle.y4m_header.proofs.header.Header.height.Goals as goal

pub returns-clause-positive : goal.returns-clause-positive
returns-clause-positive c = size_positive _ _ ((header_from_invariant _ _ _ _ c.self.invariant).stated.height)

pub returns-clause-limit : goal.returns-clause-limit
returns-clause-limit c = (header_from_invariant _ _ _ _ c.self.invariant).limits.height
