use Rattle.y4m_stream.specs.Writer.{IsOfSize}
use Rattle.y4m_stream_tests.proofs.tests.parts.a_sink_that_cannot_tell_is_written_at_once.Given as goal

abbrev pub invariant-loop-whole : goal.invariant-loop-whole
invariant-loop-whole g l = IsOfSize l.writer l.frame.geometry
