use Rattle.std.proofs.Common.{◌∙◌, [], None, Ok, Some, ap, refl, sym}
use Rattle.std.specs.Result.{result_err}
use Rattle.std.specs.Arc.{arc_value}
use Rattle.filters.specs.Chain.{ChainValue}
use Rattle.y4m_stream.specs.Reader.{IsOfHeader, ReaderState, TakesFrame, frame_text_of}
use Rattle.serve_client.specs.declared.feeding.Fed.TheVariants as feds
use Rattle.serve_client.specs.declared.stop.Stop.TheVariants.{Whole}
use Rattle.serve_client.proofs.Allowing.{delivery_allowed, unread_allowed}
use Rattle.serve_client.proofs.Staying.{stays_chain}
use Rattle.serve_client.proofs.Moving.{Moves-none, few_of, one_size}
use Rattle.serve_client.proofs.Passing.{Feeds-end, Feeds-unread, Passes-same, fed_broken, fed_once, passed_once, sized_before, sized_memory}
use Rattle.serve_client.proofs.Passing.{sized_still}
use Rattle.serve_client.proofs.Offering.{fed_image_before}
use Rattle.serve_client.proofs.Pipelines.{CanOffer-later, HasFed-delivered, HasFed-trans}
use Rattle.serve_client.proofs.Tallying.{none_given}
use Rattle.serve_client.proofs.pipeline.Pipeline.feed_once.Goals as goal

pub deliver_ready-requires : goal.deliver_ready-requires
deliver_ready-requires g c =
    let can = c.requires.can.offer in
    record {
      can = record {
        few = few_of _ _ can.accounted;
        writing = can.accounted.writing;
        none = can.accounted.none;
        size = can.size;
      };
      «open» = can.accounted.is_open;
      buffers = can.memory;
    }

-- no image was delivered

pub returns-in-Err-clause-answer : goal.returns-in-Err-clause-answer
returns-in-Err-clause-answer g c = λ past counted.
    let old = c.args.self.now in
    let at = c.deliver_ready.new.self in
    let same = c.deliver_ready.ensures.reader in
    let none = Passes-same old.reader at.reader old.seat old.seat old.writer old.writer same (Moves-none _ _ _ _ refl refl) in
    rw c.without_frame.ensures (fed_broken old.reader at.reader old.seat old.seat old.writer old.writer [] none past c.in-Err.halt
    at.seat at.writer (ap (λ (r : ReaderState). r.phase) same ∙ c.requires.can.is_open) c.in-Err.ensures.own c.deliver_ready.ensures.stays
    c.in-Err.ensures.answer)

pub returns-in-Err-clause-has_fed : goal.returns-in-Err-clause-has_fed
returns-in-Err-clause-has_fed g c =
    let gives = g.K.Clock.gives c.args.post.clock.now in
    let halt = c.in-Err.halt in
    rw c.without_frame.ensures (record {
      tally = rw (fed_image_before halt) c.in-Err.ensures.tally;
      moments = none_given gives _ _ c.deliver_ready.ensures.tally.seat c.deliver_ready.ensures.stays;
      stop = delivery_allowed gives halt c.in-Err.ensures.own;
      memory = c.deliver_ready.ensures.buffers;
      frame = sized_before halt _ _ _ _ c.in-Err.ensures.answer c.in-Err.ensures.left c.requires.can.offer.size;
      header = ap (λ (r : ReaderState). r.header) c.deliver_ready.ensures.reader;
    })

-- no frame was read

pub returns-in-Silent-clause-passed : goal.returns-in-Silent-clause-passed
returns-in-Silent-clause-passed g c =
    let same = c.deliver_ready.ensures.reader in
    record {
      frames = [];
      passed = Passes-same _ _ _ _ _ _ same c.in-Ok.ensures.answer;
      is_open = ap (λ (r : ReaderState). r.phase) same ∙ c.requires.can.is_open;
    }

pub returns-in-JournalFull-clause-answer : goal.returns-in-JournalFull-clause-answer
returns-in-JournalFull-clause-answer g c = λ past counted.
    let same = c.deliver_ready.ensures.reader in
    record {
      before = c.deliver_ready.new.self.reader;
      frames = [];
      passed = Passes-same _ _ _ _ _ _ same c.in-Ok.ensures.answer;
      holds = refl;
      is_open = ap (λ (r : ReaderState). r.phase) same ∙ c.requires.can.is_open;
    }

pub returns-in-Silent-clause-has_fed : goal.returns-in-Silent-clause-has_fed
returns-in-Silent-clause-has_fed g c =
    let on = c.deliver_ready.ensures in
    HasFed-delivered c.args.self.now c.deliver_ready.new.self (g.K.Clock.gives c.args.post.clock.now) None c.in-Ok.ensures.tally
    on.stays on.buffers (ap (λ (r : ReaderState). r.header) on.reader) refl tt tt

pub returns-in-JournalFull-clause-has_fed : goal.returns-in-JournalFull-clause-has_fed
returns-in-JournalFull-clause-has_fed g c =
    let on = c.deliver_ready.ensures in
    HasFed-delivered c.args.self.now c.deliver_ready.new.self (g.K.Clock.gives c.args.post.clock.now) (Some (feds.Paused None None))
    c.in-Ok.ensures.tally on.stays on.buffers (ap (λ (r : ReaderState). r.header) on.reader) refl tt
    (tt, sized_still _ _ _ _ c.in-Ok.ensures.answer c.requires.can.offer.size, tt)

pub read_into-requires : goal.read_into-requires
read_into-requires g c =
    let same = c.deliver_ready.ensures.reader in
    let seat = c.args.self.now.seat in
    record {
      «open» = ap (λ (r : ReaderState). r.phase) same ∙ c.requires.can.is_open;
      size = sized_memory c.args.self.now.reader.header _ seat.chain.geometry _ (ap (λ (r : ReaderState). r.header) same)
          c.requires.can.header (c.take_source-memory.ensures.size _ c.deliver_ready.ensures.buffers);
    }

pub returns-in-Ok-None-clause-answer : goal.returns-in-Ok-None-clause-answer
returns-in-Ok-None-clause-answer g c = λ past counted.
    let old = c.args.self.now in
    let at = c.deliver_ready.new.self in
    Feeds-end old.reader at.reader old.seat at.seat old.writer at.writer []
    (Passes-same _ _ _ _ _ _ c.deliver_ready.ensures.reader c.in-Ok.ensures.answer) past c.read_into.new.reader
    (c.in-Ok-None.ensures.end (ap Ok c.in-Ok-None.field-0-is))

pub returns-in-Ok-None-clause-has_fed : goal.returns-in-Ok-None-clause-has_fed
returns-in-Ok-None-clause-has_fed g c =
    let on = c.deliver_ready.ensures in
    let at = c.deliver_ready.new.self in
    HasFed-delivered c.args.self.now
    (record { seat = at.seat; reader = c.read_into.new.reader; writer = at.writer; buffers = c.take_source-memory.new.self })
    (g.K.Clock.gives c.args.post.clock.now) (Some (feds.Stopped Whole)) c.in-Ok.ensures.tally on.stays
    (c.take_source-memory.ensures.sized _ on.buffers)
    (c.read_into.ensures.header ∙ ap (λ (r : ReaderState). r.header) on.reader) refl tt tt

pub returns-in-Err-read_into-clause-answer : goal.returns-in-Err-read_into-clause-answer
returns-in-Err-read_into-clause-answer g c = λ past counted.
    let old = c.args.self.now in
    let at = c.deliver_ready.new.self in
    Feeds-unread old.reader at.reader old.seat at.seat old.writer at.writer []
    (Passes-same _ _ _ _ _ _ c.deliver_ready.ensures.reader c.in-Ok.ensures.answer) past c.in-Err-read_into.stop c.read_into.new.reader
    c.in-Err-read_into.ensures.fault

pub returns-in-Err-read_into-clause-has_fed : goal.returns-in-Err-read_into-clause-has_fed
returns-in-Err-read_into-clause-has_fed g c =
    let on = c.deliver_ready.ensures in
    let at = c.deliver_ready.new.self in
    let gives = g.K.Clock.gives c.args.post.clock.now in
    let stop = c.in-Err-read_into.stop in
    HasFed-delivered c.args.self.now
    (record { seat = at.seat; reader = c.read_into.new.reader; writer = at.writer; buffers = c.take_source-memory.new.self })
    gives (Some (feds.Stopped stop)) c.in-Ok.ensures.tally on.stays (c.take_source-memory.ensures.sized _ on.buffers)
    (c.read_into.ensures.header ∙ ap (λ (r : ReaderState). r.header) on.reader) refl
    (unread_allowed gives stop _ _ c.in-Err-read_into.ensures.fault) tt

-- a frame was read

pub accept-requires : goal.accept-requires
accept-requires g c =
    let on = c.deliver_ready.ensures in
    let moved = c.in-Ok.ensures.answer in
    let chain = stays_chain c.args.self.now.seat c.deliver_ready.new.self.seat moved.seat_stays in
    let sized : IsOfHeader c.deliver_ready.new.self.reader.header (arc_value c.in-Ok-Some.frame).geometry = rw c.in-Ok-Some.field-0-is at
    c.in-Ok-Some.ensures.size in
    let header : IsOfHeader c.deliver_ready.new.self.reader.header c.args.self.now.seat.chain.geometry = rw on.reader
    c.requires.can.header in
    let at = c.deliver_ready.new.self in
    record {
      can = CanOffer-later c.args.self.now
          (record { seat = at.seat; reader = c.read_into.new.reader; writer = at.writer; buffers = c.take_source-memory.new.self }) [] moved
          (c.take_source-memory.ensures.sized _ on.buffers) c.requires.can.offer;
      frame = one_size c.deliver_ready.new.self.reader.header _ _ sized header ∙ sym (ap (λ (h : ChainValue). h.geometry) chain);
    }

pub returns-in-Ok-Some-clause-passed : goal.returns-in-Ok-Some-clause-passed
returns-in-Ok-Some-clause-passed g c =
    let old = c.args.self.now in
    let at = c.deliver_ready.new.self in
    let new = c.accept.new.self in
    let frame = arc_value c.in-Ok-Some.frame in
    let taken : TakesFrame at.reader c.read_into.new.reader (frame_text_of frame) = rw c.in-Ok-Some.field-0-is at
    c.in-Ok-Some.ensures.frame in
    passed_once old.reader at.reader old.seat at.seat old.writer at.writer []
    (Passes-same _ _ _ _ _ _ c.deliver_ready.ensures.reader c.in-Ok.ensures.answer)
    c.accept.result new.reader new.seat new.writer frame (rw c.accept.ensures.reader taken)
    (rw c.accept.ensures.reader c.read_into.ensures.header) c.accept.ensures.answer

pub returns-in-Ok-Some-clause-answer : goal.returns-in-Ok-Some-clause-answer
returns-in-Ok-Some-clause-answer g c =
    let old = c.args.self.now in
    let at = c.deliver_ready.new.self in
    let new = c.accept.new.self in
    let frame = arc_value c.in-Ok-Some.frame in
    let taken : TakesFrame at.reader c.read_into.new.reader (frame_text_of frame) = rw c.in-Ok-Some.field-0-is at
    c.in-Ok-Some.ensures.frame in
    fed_once old.reader at.reader old.seat at.seat old.writer at.writer []
    (Passes-same _ _ _ _ _ _ c.deliver_ready.ensures.reader c.in-Ok.ensures.answer)
    c.accept.result new.reader new.seat new.writer frame c.deliver_ready.ensures.tally.seat (rw c.accept.ensures.reader taken)
    (rw c.accept.ensures.reader c.read_into.ensures.header) c.accept.ensures.answer

pub returns-in-Ok-Some-clause-has_fed : goal.returns-in-Ok-Some-clause-has_fed
returns-in-Ok-Some-clause-has_fed g c =
    let on = c.deliver_ready.ensures in
    let at = c.deliver_ready.new.self in
    let gives = g.K.Clock.gives c.args.post.clock.now in
    HasFed-trans c.args.self.now
    (record { seat = at.seat; reader = c.read_into.new.reader; writer = at.writer; buffers = c.take_source-memory.new.self })
    gives (result_err c.accept.result) c.accept.new.self c.in-Ok.ensures.answer.seat_stays
    (HasFed-delivered c.args.self.now
    (record { seat = at.seat; reader = c.read_into.new.reader; writer = at.writer; buffers = c.take_source-memory.new.self })
    gives None c.in-Ok.ensures.tally on.stays (c.take_source-memory.ensures.sized _ on.buffers)
    (c.read_into.ensures.header ∙ ap (λ (r : ReaderState). r.header) on.reader) refl tt tt) c.accept.ensures.has_fed
