use Rattle.y4m_stream.proofs.Told.{no_device}
use Rattle.y4m_stream.proofs.filter.filter_bytes.Goals as goal

pub returns-clause-no_device : goal.returns-clause-no_device
returns-clause-no_device g c = no_device c.filter_stream.result.1 c.filter_stream.ensures.answer.1

pub returns-clause-answer : goal.returns-clause-answer
returns-clause-answer g c = (_, c.filter_stream.ensures.answer.2)
