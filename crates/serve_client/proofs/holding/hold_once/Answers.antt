use Rattle.std.proofs.Common.{[], Ok, ap, refl}
use Rattle.std.specs.Arc.{arc_value}
use Rattle.y4m_stream.specs.Reader.{IsOfHeader, TakesFrame, frame_text_of}
use Rattle.serve_client.proofs.Allowing.{unread_allowed}
use Rattle.serve_client.proofs.Moving.{one_size}
use Rattle.serve_client.proofs.OfferingOn.{no_write_read}
use Rattle.serve_client.proofs.Passing.{Feeds-end, Feeds-unread, Passes-none}
use Rattle.serve_client.proofs.Tallying.{KeepsMoments-same, seat_same}
use Rattle.serve_client.proofs.holding.hold_once.Goals as goal

pub returns-in-Silent-clause-answer : goal.returns-in-Silent-clause-answer
returns-in-Silent-clause-answer g c = λ past writer counted. record {
  frames = [];
  passed = Passes-none c.args.reader.now c.args.seat.now writer;
  is_open = c.requires.can.is_open;
}

pub returns-in-JournalFull-clause-answer : goal.returns-in-JournalFull-clause-answer
returns-in-JournalFull-clause-answer g c = λ past writer counted. record {
  before = c.args.reader.now;
  frames = [];
  passed = Passes-none c.args.reader.now c.args.seat.now writer;
  holds = refl;
  is_open = c.requires.can.is_open;
}

pub offer_on-requires : goal.offer_on-requires
offer_on-requires g c =
    let sized : IsOfHeader c.args.reader.now.header (arc_value c.in-Ok-Some.frame).geometry = rw c.in-Ok-Some.field-0-is at
    c.in-Ok-Some.ensures.size in
    record { size = one_size c.args.reader.now.header _ _ sized c.requires.can.header; unclosed = c.requires.can.is_unclosed }

pub returns-in-Ok-Some-clause-answer : goal.returns-in-Ok-Some-clause-answer
returns-in-Ok-Some-clause-answer g c = λ past writer counted.
    let taken : TakesFrame c.args.reader.now c.read_new.new.reader (frame_text_of (arc_value c.in-Ok-Some.frame)) =
    rw c.in-Ok-Some.field-0-is at c.in-Ok-Some.ensures.frame in
    c.offer_on.ensures.answer past c.args.reader.now c.read_new.new.reader writer counted (taken, c.read_new.ensures.header)

pub returns-in-Ok-None-clause-answer : goal.returns-in-Ok-None-clause-answer
returns-in-Ok-None-clause-answer g c = λ past writer counted. (
  tt,
  Feeds-end c.args.reader.now c.args.reader.now c.args.seat.now c.args.seat.now writer writer []
      (Passes-none c.args.reader.now c.args.seat.now writer) past c.read_new.new.reader
      (c.in-Ok-None.ensures.end (ap Ok c.in-Ok-None.field-0-is)),
)

pub returns-in-Err-clause-answer : goal.returns-in-Err-clause-answer
returns-in-Err-clause-answer g c = λ past writer counted. (
  no_write_read c.in-Err.stop c.args.reader.now c.read_new.new.reader c.in-Err.ensures.fault,
  Feeds-unread c.args.reader.now c.args.reader.now c.args.seat.now c.args.seat.now writer writer []
      (Passes-none c.args.reader.now c.args.seat.now writer) past c.in-Err.stop c.read_new.new.reader c.in-Err.ensures.fault,
)

pub returns-in-Silent-clause-moments : goal.returns-in-Silent-clause-moments
returns-in-Silent-clause-moments g c = KeepsMoments-same _ _ _ refl

pub returns-in-JournalFull-clause-moments : goal.returns-in-JournalFull-clause-moments
returns-in-JournalFull-clause-moments g c = KeepsMoments-same _ _ _ refl

pub returns-in-Ok-None-clause-moments : goal.returns-in-Ok-None-clause-moments
returns-in-Ok-None-clause-moments g c = KeepsMoments-same _ _ _ refl

pub returns-in-Err-clause-moments : goal.returns-in-Err-clause-moments
returns-in-Err-clause-moments g c = KeepsMoments-same _ _ _ refl

pub returns-in-Err-clause-stop : goal.returns-in-Err-clause-stop
returns-in-Err-clause-stop g c =
    unread_allowed (g.K.Clock.gives c.args.post.clock.now) c.in-Err.stop _ _ c.in-Err.ensures.fault

pub returns-in-Silent-clause-tally : goal.returns-in-Silent-clause-tally
returns-in-Silent-clause-tally g c = seat_same _ _ refl

pub returns-in-JournalFull-clause-tally : goal.returns-in-JournalFull-clause-tally
returns-in-JournalFull-clause-tally g c = seat_same _ _ refl

pub returns-in-Ok-None-clause-tally : goal.returns-in-Ok-None-clause-tally
returns-in-Ok-None-clause-tally g c = seat_same _ _ refl

pub returns-in-Err-clause-tally : goal.returns-in-Err-clause-tally
returns-in-Err-clause-tally g c = seat_same _ _ refl
