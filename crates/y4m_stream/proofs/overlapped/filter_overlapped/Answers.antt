use Rattle.std.proofs.Common.{Err, arith, inl, inr, rules}
use Rattle.y4m_stream.specs.Front.{IsFrameAhead}
use Rattle.y4m_stream.proofs.Ahead.{reads_ahead}
use Rattle.y4m_stream.proofs.Closing.{CanPass-begun, closed_counts, closed_flushes, closed_writes, reads_at_header, writes_at_header}
use Rattle.y4m_stream.proofs.Serving.{counts_on, filtered_once_begun, stopped_at_header}
use Rattle.y4m_stream.proofs.overlapped.filter_overlapped.Goals as goal

pub returns-in-Err-clause-answer : goal.returns-in-Err-clause-answer
returns-in-Err-clause-answer g c =
    let fails = c.in-Err.ensures.fault in (c.in-Err.field-0-0, fails.told, inl (fails.stands, search rules))

pub returns-in-Err-begin-clause-answer : goal.returns-in-Err-begin-clause-answer
returns-in-Err-begin-clause-answer g c =
    let opened = c.in-Ok.ensures.opened in
    let fails = rw c.header.ensures at c.in-Err-begin.ensures.fault in (
      c.into_source.result,
      rw (c.into_source.ensures.failures, opened.no_failure)
          (reads_ahead (Err c.in-Err-begin.fault) _ _ (reads_at_header _ _ _ _ _ _ _ c.in-Err-begin.ensures.fault)),
      rw c.into_source.ensures.remaining
          (stopped_at_header IsFrameAhead (λ len rest left ahead. (ahead.0, ahead.1, omega (arith, ahead.2))) _ _ _
          c.in-Ok.reader (counts_on _ _ _ opened) _ _ _ fails),
    )

pub returns-in-Err-begin-clause-writes : goal.returns-in-Err-begin-clause-writes
returns-in-Err-begin-clause-writes g c =
    writes_at_header _ _ _ _ _ _ _ _ c.in-Err-begin.ensures.fault c.in-Err-begin.ensures.writes

pub pass_beside-passed-requires-clause-ready : goal.pass_beside-passed-requires-clause-ready
pass_beside-passed-requires-clause-ready g c =
    let filter = rw c.header.ensures at c.in-Ok-begin.ensures.filter in
    let writer = rw c.header.ensures at c.in-Ok-begin.ensures.opened in
    λ _ _. record {
      ready = record {
        pass = CanPass-begun _ _ c.in-Ok.reader _ _ _ _ c.in-Ok.ensures.opened.is_open filter writer;
        frame = filter.frame;
      };
      none = writer.frames;
    }

pub returns-clause-answer : goal.returns-clause-answer
returns-clause-answer g c =
    let opened = c.in-Ok.ensures.opened in
    let filter = rw c.header.ensures at c.in-Ok-begin.ensures.filter in
    let writer = rw c.header.ensures at c.in-Ok-begin.ensures.opened in
    let passed = c.pass_beside-passed.ensures in (
      c.into_source-2.result,
      rw c.into_source-2.ensures.failures
          (rw opened.no_failure at (closed_counts _ _ _ _ _ _ _ _ c.close-output.ensures.answer passed)),
      rw c.into_source-2.ensures.remaining
          (filtered_once_begun IsFrameAhead (λ len rest left ahead. (ahead.0, ahead.1, omega (arith, ahead.2))) _ _ _
          c.in-Ok.reader (counts_on _ _ _ opened) c.in-Ok-begin.begun.0 c.pass_beside-passed.new.reader _ _ _
          c.in-Ok-begin.begun.1 _ filter writer c.close-output.ensures.keeps_contents _ _ c.close-output.ensures.answer passed.outcome),
    )

pub returns-clause-writes : goal.returns-clause-writes
returns-clause-writes g c =
    let close = c.close-output.ensures in
    closed_writes _ _ _ _ _ _ _ _ _ c.in-Ok-begin.ensures.opened.no_failure _ _ close.answer close.counted c.pass_beside-passed.ensures

pub returns-clause-closed : goal.returns-clause-closed
returns-clause-closed g c =
    let close = c.close-output.ensures in
    inr (closed_flushes _ _ _ _ _ _ _ _ _ c.in-Ok-begin.ensures.opened.no_failure _ _ _ close.counted close.closed
    c.pass_beside-passed.ensures)
