use Rattle.y4m_stream.proofs.Reading.{IsReadAhead-held}
use Rattle.y4m_stream.proofs.reader.StreamReader.into_source.Goals as goal

pub returns-clause-ahead : goal.returns-clause-ahead
returns-clause-ahead g c = rw (← c.self.view_is) (IsReadAhead-held c.self.inside.input c.into_source.ensures.few_held)
