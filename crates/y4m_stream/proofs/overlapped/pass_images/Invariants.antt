use Rattle.std.proofs.Common.{◌≡◌, true}
use Rattle.y4m_stream.specs.Inside.{CanPass}
use Rattle.y4m_stream.specs.Reader.{frame_text_of}
use Rattle.y4m_stream.proofs.Ahead.{PassesAhead}
use Rattle.y4m_stream.proofs.overlapped.pass_images.Given as goal

abbrev pub invariant-loop-count : goal.invariant-loop-count
invariant-loop-count g l = record {
  same : l.filter.images.chain ≡ l.fn.filter.images.chain;
  next : l.next.geometry ≡ l.fn.filter.images.chain.geometry;
  frame : l.filter.frame.geometry ≡ l.fn.filter.images.chain.geometry;
  ready : l.more ≡ true → CanPass l.fn.filter.images.chain l.reader l.writer;
  put : l.writer.frames ≡ l.count;
  passed : PassesAhead l.fn.filter.images.chain l.fn.reader l.reader l.fn.writer l.writer l.count l.more (frame_text_of l.next);
}
