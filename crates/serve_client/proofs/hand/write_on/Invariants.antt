use Rattle.std.proofs.Common.{Ok, false}
use Rattle.y4m_stream.specs.Reader.{frame_text_of}
use Rattle.y4m_stream.specs.Writer.{CountsMore, IsWithin, WriterState}
use Rattle.serve_client.proofs.hand.write_on.Given as goal

abbrev pub invariant-loop : goal.invariant-loop
invariant-loop g l = record {
  counted : CountsMore l.initial.writer l.writer (frame_text_of l.fn.pair.image) (Ok false);
  on : (before : WriterState) → IsWithin before l.initial.writer (frame_text_of l.fn.pair.image)
      → IsWithin before l.writer (frame_text_of l.fn.pair.image);
}
