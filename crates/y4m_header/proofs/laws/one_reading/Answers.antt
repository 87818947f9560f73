use Rattle.y4m_header.proofs.StreamLaws.{one_reading}
use Rattle.y4m_header.proofs.laws.one_reading.Goals as goal

pub returns : goal.returns
returns c = one_reading
