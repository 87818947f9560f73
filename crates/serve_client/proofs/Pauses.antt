-- What went out where a client pauses.
use Rattle.std.specs.Prelude.{⊤}
use Rattle.std.proofs.Common.{All, ◌≡◌, ◌≢◌, ℕ, ◌+◌, ◌≤◌, Bool, true, false, List, [], ◌++◌, length, take, Option, None, Some}
use Rattle.std.proofs.Common.{Result, Ok, Err, refl, sym, ap, ◌∙◌, append-nil, arith, subst, inl, inr}
use Rattle.std.proofs.KnownBytes.{Keeps-refl}
use Rattle.std.specs.Io.KnownBytes.{Appends, Consumes}
use Rattle.y4m_header.specs.StreamText.{FrameText, IsFrameOf, frames_text}
use Rattle.y4m_stream.specs.declared.fault.WriteFault.{WriteFault}
use Rattle.y4m_stream.specs.declared.fault.WriteFault.TheVariants.{Device, Failed}
use Rattle.y4m_stream.specs.Failures.{one_more}
use Rattle.y4m_stream.specs.Reader.{ReaderState, data_len_of, frame_text_of}
use Rattle.y4m_stream.specs.Writer.{FailsToPut, WriterState}
use Rattle.serve_core.specs.declared.collected.Collected.{Collected}
use Rattle.serve_hub.specs.declared.entry.Act.{Act}
use Rattle.serve_hub.specs.Seats.{StreamSeatValue}
use Rattle.serve_client.specs.declared.stop.Stop.{Stop}
use Rattle.serve_client.specs.declared.stop.Stop.TheVariants.{Whole, Read, Write, Refused, Torn}
use Rattle.serve_client.specs.Clients.{ClientOutcome, ClientStart}
use Rattle.serve_client.specs.ClientInside.{Moves, StopsWith}
use Rattle.serve_client.specs.Hands.{IsBegunPair, with_kept}
use Rattle.serve_client.specs.Laws.{AFrontIsOut, HasFrontOut}
use Rattle.serve_client.specs.Rests.{Begun, CourseValue, BegunValue, Discarding, Draining, Feeding, Holding, IsAt, IsBegun, IsOutset}
use Rattle.serve_client.specs.Rests.{Outset, Unbegun, as_open}
use Rattle.serve_client.specs.Sends.{Flushes, IsSent}
use Rattle.serve_client.proofs.Ending.{Finishes, wrote_until}
use Rattle.serve_client.proofs.Fronts.{a_front_went_out}
use Rattle.serve_client.proofs.Moving.{Cuts-finish, StopsWith-later}
use Rattle.serve_client.proofs.Resting.{outset_of}
use Rattle.serve_client.proofs.Stopping.{moves_until, of_no_use, sends_whole, sent_until}

-- the frames that were accepted, and what went out, by a writer with the same contents
record CameTo (o : Outset) (accepted : ℕ) (contents : Option (List ℕ)) : Type 0 where
  frames : List FrameText
  rest : Option (List ℕ)
  each : All (IsFrameOf (data_len_of o.reader.header)) frames
  taken : Consumes o.reader.rest rest (frames_text frames)
  count : accepted ≡ o.seat.accepted + length frames
  stop : Stop
  now : WriterState
  sent : IsSent stop o.seat.chain frames o.writer now
  writing : stop ≡ Whole → now.failed ≡ false
  same : now.contents ≡ contents

-- the writer as it would be if the image in hand had been cut here
abbrev cut_here : (before writer : WriterState) → WriterState
cut_here before writer = record before {
  contents = writer.contents;
  bytes = before.bytes + writer.part;
  failed = true;
  failures = one_more before.failures;
}

module _ (past : List Act) (o : Outset) (is : IsOutset o) where
  -- nothing failed
  came_whole : (rest : Option (List ℕ)) (seat : StreamSeatValue) (writer : WriterState) (frames : List FrameText)
      → All (IsFrameOf (data_len_of o.reader.header)) frames → Consumes o.reader.rest rest (frames_text frames)
      → Moves o.seat seat o.writer writer frames → CameTo o seat.accepted writer.contents
  came_whole rest seat writer frames each taken moved =
      let whole = sends_whole o.seat o.writer frames is.fresh.kept is.writing seat writer moved in
      record {
        frames = frames;
        rest = rest;
        each = each;
        taken = taken;
        count = moved.count;
        stop = Whole;
        now = writer;
        sent = inl (whole, λ f e. absurd (cc));
        writing = λ e. whole.writing;
        same = refl;
      }

  -- an image is in hand
  came_part : (pair : Collected) (rest : Option (List ℕ)) (seat : StreamSeatValue) (before writer : WriterState)
      (frames : List FrameText) → All (IsFrameOf (data_len_of o.reader.header)) frames
      → Consumes o.reader.rest rest (frames_text frames) → IsBegunPair seat.chain pair before writer
      → Moves o.seat (with_kept pair seat) o.writer before frames → CameTo o seat.accepted writer.contents
  came_part pair rest seat before writer frames each taken begun moved =
      let fault : WriteFault = Device (before.bytes + writer.part) in
      let now : WriterState = cut_here before writer in
      let cut : FailsToPut before now (frame_text_of pair.image) fault = record {
        cut = record { n = writer.part; partly = begun.within.partly; front = begun.within.front; counted = refl };
        counted = refl;
        failed = refl;
      } in
      let stops : StopsWith (Write fault) o.seat seat o.writer now frames = rw (append-nil frames) at
      (StopsWith-later (Write fault) o.seat (with_kept pair seat) seat o.writer before now frames [] moved
      (Cuts-finish pair seat before writer now fault begun cut)) in
      record {
        frames = frames;
        rest = rest;
        each = each;
        taken = taken;
        count = moved.count;
        stop = Write fault;
        now = now;
        sent = sent_until o.seat o.writer frames is.fresh.kept is.writing (Write fault) (Write fault) seat now (λ f e. e) stops;
        writing = λ e. absurd (cc);
        same = refl;
      }

  came_to : (course : CourseValue) (reader : ReaderState) (seat : StreamSeatValue) (writer : WriterState)
      → IsAt course past o reader seat writer → CameTo o seat.accepted writer.contents
  came_to (Feeding in_hand None) reader seat writer at =
      came_whole at.before.rest seat writer at.frames at.passed.each at.passed.taken at.passed.moved
  came_to (Feeding in_hand (Some pair)) reader seat writer at =
      came_part pair at.2.before.rest seat at.0 writer at.2.frames at.2.passed.each at.2.passed.taken at.1 at.2.passed.moved
  came_to (Holding in_hand held) reader seat writer at = record {
    frames = at.frames;
    rest = at.before.rest;
    each = at.read.each;
    taken = at.read.taken;
    count = at.count;
    stop = held;
    now = writer;
    sent = at.sent;
    writing = λ e. absurd (of_no_use held at.spoilt e);
    same = refl;
  }
  came_to (Draining stop None) reader seat writer at =
      let a = at.1 in
      came_whole a.read.rest (as_open seat) writer a.frames a.read.each a.read.taken
      (moves_until stop o.seat (as_open seat) o.writer writer a.frames at.0 a.moved)
  came_to (Draining stop (Some pair)) reader seat writer at =
      let a = at.1.2 in
      came_part pair a.read.rest (as_open seat) at.1.0 writer a.frames a.read.each a.read.taken at.1.1
      (moves_until stop o.seat (as_open (with_kept pair seat)) o.writer at.1.0 a.frames at.0 a.moved)
  came_to (Discarding stop) reader seat writer at = record {
    frames = at.0.2.frames;
    rest = at.0.2.read.rest;
    each = at.0.2.read.each;
    taken = at.0.2.read.taken;
    count = at.0.2.count;
    stop = stop;
    now = writer;
    sent = at.0.2.sent;
    writing = λ e. absurd (at.0.0 e);
    same = refl;
  }

-- what would be told if all stopped here

abbrev told_here : Stop → WriterState → ClientOutcome
told_here stop writer = record {
  stop = stop;
  accepted = 0;
  delivered = writer.frames;
  left = None;
  read_failures = 0;
  after = writer.contents;
  failures = writer.failures;
  is_flushed = true;
}

abbrev flush_by : Bool → Result ⊤ WriteFault
flush_by true = Err Failed
flush_by false = Ok tt

finishes_by : (stop : Stop) (failed : Bool) (writer : WriterState) → writer.failed ≡ failed
    → Finishes writer (flush_by failed) (told_here stop writer)
finishes_by stop true writer e = record {
  kept = Keeps-refl writer.contents;
  flushed = tt;
  closed = λ writing. let both : true ≡ false = sym e ∙ writing in absurd (cc);
  fault = λ writing. let both : true ≡ false = sym e ∙ writing in absurd (cc);
  failed = ((λ is. e), (λ is. refl));
  told = refl;
}
finishes_by stop false writer e = record {
  kept = Keeps-refl writer.contents;
  flushed = refl;
  closed = λ writing. inl refl;
  fault = λ writing. tt;
  failed = ((λ is. absurd (cc)), (λ is. let both : true ≡ false = sym is ∙ e in absurd (cc)));
  told = refl;
}

flushes_by : (stop : Stop) (failed : Bool) → (stop ≡ Whole → failed ≡ false) → Flushes stop (flush_by failed) stop
flushes_by Whole true writing = absurd (let both : true ≡ false = writing refl in cc)
flushes_by Whole false writing = refl
flushes_by (Read fault) failed writing = refl
flushes_by (Write fault) failed writing = refl
flushes_by (Refused cause) failed writing = refl
flushes_by Torn failed writing = refl

-- a front went out
front_out : (start : ClientStart) (past : List Act) (seat : StreamSeatValue) (begun : BegunValue) → IsBegun start past seat begun
    → HasFrontOut start begun
front_out start past seat begun b =
    let o : Outset = record { reader = start.reader; seat = start.seat; writer = b.opened } in
    let is : IsOutset o = outset_of start b.shown b.opened b.first b.is_opened in
    let came = came_to past o is begun.course begun.reader seat begun.writer b.at in
    let end : ClientOutcome = told_here came.stop came.now in
    let wrote = wrote_until start end b.shown b.opened b.header b.is_opened came.frames came.stop came.now (flush_by came.now.failed)
    came.sent came.writing (finishes_by came.stop came.now.failed came.now refl) (flushes_by came.stop came.now.failed came.writing) refl in
    record {
      frames = came.frames;
      rest = came.rest;
      each = came.each;
      taken = came.taken;
      count = omega (arith, came.count, b.first.accepted, b.accepted);
      front = λ served is_served.
          let went = a_front_went_out start end came.frames served (inr (inr wrote)) is_served in
          (went.n, went.within, subst (λ c. Appends start.before c (take went.n served)) came.same went.front);
    }

pub a_front_is_out : AFrontIsOut
a_front_is_out start past seat (Unbegun reader contents failures) a = a.same_contents
a_front_is_out start past seat (Begun begun) a = front_out start past seat begun a
