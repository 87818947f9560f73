use Rattle.y4m_stream.specs.Writer.{IsOfSize}
use Rattle.y4m_stream_tests.proofs.tests.parts.rest_goes_out.Given as goal

abbrev pub invariant-loop : goal.invariant-loop
invariant-loop g l = IsOfSize l.writer l.frame.geometry
