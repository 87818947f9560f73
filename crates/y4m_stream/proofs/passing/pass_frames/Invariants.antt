use Rattle.std.proofs.Common.{◌≡◌, List, length}
use Rattle.y4m_header.specs.StreamText.{FrameText}
use Rattle.y4m_stream.specs.Inside.{CanPass}
use Rattle.y4m_stream.proofs.MoreFrames.{PassesFrames}
use Rattle.y4m_stream.proofs.passing.pass_frames.Given as goal

abbrev pub invariant-loop-count : goal.invariant-loop-count
invariant-loop-count g l = record {
  same : l.filter.images.chain ≡ l.fn.filter.images.chain;
  frame : l.filter.frame.geometry ≡ l.fn.filter.images.chain.geometry;
  ready : CanPass l.fn.filter.images.chain l.reader l.writer;
  put : l.writer.frames ≡ l.count;
  passed : (frames images : List FrameText) × (length frames ≡ l.count)
      × PassesFrames l.fn.filter.images.chain l.fn.reader l.reader l.fn.writer l.writer frames images;
}
