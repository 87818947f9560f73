use Rattle.std.proofs.Common.{◌∙◌, inl, inr, rules}
use Rattle.y4m_stream.specs.Filtered.{IsLineAhead}
use Rattle.y4m_stream.proofs.Closing.{CanPass-begun, closed_flushes, closed_reads, closed_writes, reads_at_header, writes_at_header}
use Rattle.y4m_stream.proofs.Serving.{counts_on, filtered_once_begun, stopped_at_header}
use Rattle.y4m_stream.proofs.filter.filter_between.Goals as goal

pub returns-in-Err-clause-answer : goal.returns-in-Err-clause-answer
returns-in-Err-clause-answer g c = inl (c.in-Err.ensures.fault.stands, search rules)

pub returns-in-Err-clause-reads : goal.returns-in-Err-clause-reads
returns-in-Err-clause-reads g c = c.in-Err.ensures.fault.told

pub returns-in-Err-begin-clause-answer : goal.returns-in-Err-begin-clause-answer
returns-in-Err-begin-clause-answer g c =
    let fails = rw c.header.ensures at c.in-Err-begin.ensures.fault in
    rw c.into_source.ensures.remaining
    (stopped_at_header IsLineAhead (λ len rest left ahead. ahead) _ _ _ c.in-Ok.reader (counts_on _ _ _ c.in-Ok.ensures.opened) _ _ _ fails)

pub returns-in-Err-begin-clause-reads : goal.returns-in-Err-begin-clause-reads
returns-in-Err-begin-clause-reads g c =
    rw (c.into_source.ensures.failures, c.in-Ok.ensures.opened.no_failure)
    (reads_at_header _ _ _ _ _ _ _ c.in-Err-begin.ensures.fault)

pub returns-in-Err-begin-clause-writes : goal.returns-in-Err-begin-clause-writes
returns-in-Err-begin-clause-writes g c =
    writes_at_header _ _ _ _ _ _ _ _ c.in-Err-begin.ensures.fault c.in-Err-begin.ensures.writes

pub pass_frames-passed-requires : goal.pass_frames-passed-requires
pass_frames-passed-requires g c =
    let filter = rw c.header.ensures at c.in-Ok-begin.ensures.filter in
    let writer = rw c.header.ensures at c.in-Ok-begin.ensures.opened in
    record {
      ready = record {
        pass = CanPass-begun _ _ c.in-Ok.reader _ _ _ _ c.in-Ok.ensures.opened.is_open filter writer;
        frame = filter.frame;
      };
      none = writer.frames;
    }

pub returns-clause-answer : goal.returns-clause-answer
returns-clause-answer g c =
    let filter = rw c.header.ensures at c.in-Ok-begin.ensures.filter in
    let writer = rw c.header.ensures at c.in-Ok-begin.ensures.opened in
    rw c.into_source-2.ensures.remaining
    (filtered_once_begun IsLineAhead (λ len rest left ahead. ahead) _ _ _ c.in-Ok.reader (counts_on _ _ _ c.in-Ok.ensures.opened)
    c.in-Ok-begin.begun.0 c.pass_frames-passed.new.reader _ _ _ c.in-Ok-begin.begun.1 _ filter writer c.close-output.ensures.keeps_contents _ _
    c.close-output.ensures.answer c.pass_frames-passed.ensures.outcome)

pub returns-clause-reads : goal.returns-clause-reads
returns-clause-reads g c =
    c.into_source-2.ensures.failures
    ∙ rw c.in-Ok.ensures.opened.no_failure at
    (closed_reads _ _ _ _ _ _ _ _ c.close-output.ensures.answer c.pass_frames-passed.ensures)

pub returns-clause-writes : goal.returns-clause-writes
returns-clause-writes g c =
    let close = c.close-output.ensures in
    closed_writes _ _ _ _ _ _ _ _ _ c.in-Ok-begin.ensures.opened.no_failure _ _ close.answer close.counted c.pass_frames-passed.ensures

pub returns-clause-closed : goal.returns-clause-closed
returns-clause-closed g c =
    let close = c.close-output.ensures in
    inr (closed_flushes _ _ _ _ _ _ _ _ _ c.in-Ok-begin.ensures.opened.no_failure _ _ _ close.counted close.closed
    c.pass_frames-passed.ensures)
