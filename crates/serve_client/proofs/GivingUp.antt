-- What a client comes to that is given up.
use Rattle.std.proofs.Common.{◌≡◌, ◌⊎◌, ◌≤◌, List, [], ◌++◌, length, Option, None, Some, refl, ap}
use Rattle.std.proofs.Common.{◌∙◌, ◌+◌, append-nil, arith, subst, inl, inr}
use Rattle.filters.specs.Chain.{ChainValue}
use Rattle.y4m_header.specs.StreamText.{FrameText}
use Rattle.y4m_stream.specs.Front.{IsReadAhead}
use Rattle.y4m_stream.specs.Reader.{ReaderState, frame_text_of}
use Rattle.y4m_stream.specs.Writer.{FailsToPut, PutsFrame, WriterState}
use Rattle.y4m_stream.specs.declared.fault.WriteFault.{WriteFault}
use Rattle.serve_core.specs.declared.collected.Collected.{Collected}
use Rattle.serve_hub.specs.declared.entry.Act.{Act}
use Rattle.serve_hub.specs.Seats.{CallsValue, StreamSeatValue}
use Rattle.serve_client.specs.declared.stop.Cause.TheVariants.{NoMemory}
use Rattle.serve_client.specs.declared.stop.Stop.{Stop}
use Rattle.serve_client.specs.declared.stop.Stop.TheVariants.{Whole, Read, Write, Refused, Torn}
use Rattle.serve_client.specs.Clients.{ClientOutcome, ClientProgress, ClientStart, ClientStopsAt, CutsHeader, IsUnclosed, StreamStopsAt}
use Rattle.serve_client.specs.Clients.{WroteNothing}
use Rattle.serve_client.specs.ClientInside.{Feeds, HasInHand, IsUseful, ShowsClose}
use Rattle.serve_client.specs.ClientInside.{Moves, StopsReading, StopsReadingAt}
use Rattle.serve_client.specs.ClientInside.{IsFirst}
use Rattle.serve_client.specs.Sends.{IsSent, Serves, ServesTo}
use Rattle.serve_client.specs.Hands.{EndsImage, EndsPair, IsBegunPair, counted_with, with_kept}
use Rattle.serve_client.specs.Rests.{CourseValue, Feeding, Draining, Discarding}
use Rattle.serve_client.specs.Rests.{Holding, IsAt, IsOutset, IsTallied, Outset}
use Rattle.serve_client.specs.Rests.{Spoils, as_open, course_image, stop_kept}
use Rattle.serve_client.specs.Streams.{IsOver, Over, ServedValue}
use Rattle.serve_client.proofs.Allowing.{first_kept, given_for_fault, given_for_none}
use Rattle.serve_client.proofs.Hands.{GivesUp-kept, TalliesSeat-kept}
use Rattle.serve_client.proofs.Tallying.{if_more}
use Rattle.serve_client.proofs.Moving.{Cuts-finish, Moves-finish, Moves-trans}
use Rattle.serve_client.proofs.Passing.{takes_of}
use Rattle.serve_client.proofs.Spoiling.{held_told, held_up, read_in_hand, spoilt_behind}
use Rattle.serve_client.proofs.Keeping.{all_kept}
use Rattle.serve_client.proofs.Stopping.{Serves-drained, first_fault, moves_until, of_no_use, read_by, sends_whole}

-- what is tallied where an image in hand was written to its end
fewer : (past : List Act) (first seat : StreamSeatValue) (writer writer' : WriterState) → writer'.frames ≤ writer.frames + 1
    → IsTallied past first seat (record writer { frames = writer.frames + 1 }) → IsTallied past first seat writer'
fewer past first seat writer writer' less a = record {
  number = a.number;
  spec = a.spec;
  offers = a.offers;
  closes = a.closes;
  images = omega (arith, less, a.images);
  before = a.before;
  torn = λ none.
      if_more (λ n. first.before + (writer.frames + 1) ≤ n) (λ n. first.before + writer'.frames ≤ n) seat.torn
      (λ n few. omega (arith, few, less)) (a.torn none);
}

ended_frames : (pair : Collected) (chain : ChainValue) (before writer writer' : WriterState) (ended : Stop)
    → IsBegunPair chain pair before writer → EndsPair pair ended before writer' → writer'.frames ≤ writer.frames + 1
ended_frames pair chain before writer writer' ended begun (inl well) =
    omega (arith, ap (λ (w : WriterState). w.frames) well.1.counted, ap (λ (w : WriterState). w.frames) begun.within.stays)
ended_frames pair chain before writer writer' ended begun (inr cut) =
    omega (arith, ap (λ (w : WriterState). w.frames) cut.2.failed, ap (λ (w : WriterState). w.frames) begun.within.stays)

pub tallied_ended : (course : CourseValue) (past : List Act) (first : StreamSeatValue) (o : Outset) (reader : ReaderState)
    (seat : StreamSeatValue) (ended : Stop) (writer writer' : WriterState) → IsAt course past o reader seat writer
    → EndsImage (course_image course) seat.chain ended writer writer'
    → IsTallied past first seat (counted_with (course_image course) writer) → IsTallied past first seat writer'
tallied_ended (Feeding in_hand None) past first o reader seat ended writer writer' at e a = rw e.1 a
tallied_ended (Feeding in_hand (Some pair)) past first o reader seat ended writer writer' at e a =
    fewer past first seat writer writer' (ended_frames pair seat.chain at.0 writer writer' ended at.1 (e at.0 at.1)) a
tallied_ended (Holding in_hand held) past first o reader seat ended writer writer' at e a = rw e.1 a
tallied_ended (Draining stop None) past first o reader seat ended writer writer' at e a = rw e.1 a
tallied_ended (Draining stop (Some pair)) past first o reader seat ended writer writer' at e a =
    fewer past first seat writer writer' (ended_frames pair seat.chain at.1.0 writer writer' ended at.1.1 (e at.1.0 at.1.1)) a
tallied_ended (Discarding stop) past first o reader seat ended writer writer' at e a = rw e.1 a

-- what a client served, a stream was served
serves_more : (past : List Act) (stop : Stop) (o : Outset) (reader : ReaderState) (seat : StreamSeatValue) (writer : WriterState)
    → Serves past stop o.reader reader o.seat seat o.writer writer
    → ServesTo StreamStopsAt past stop o.reader reader o.seat seat o.writer writer
serves_more past stop o reader seat writer a = record {
  frames = a.frames;
  read = record { rest = a.read.rest; each = a.read.each; taken = a.read.taken; stops = inl a.read.stops; reads = a.read.reads };
  count = a.count;
  sent = a.sent;
  torn = a.torn;
  kept = a.kept;
  whole = a.whole;
}

-- a client that is given up was served that far

-- in the midst of its input, with a frame in hand if there is one
module _ (past : List Act) (o : Outset) (is : IsOutset o) (reader : ReaderState) where
  fed_up : (in_hand : Option FrameText) (mid seat : StreamSeatValue) (between writer : WriterState) → IsReadAhead reader.rest reader.left
      → IsUnclosed (past ++ seat.calls.list) → (at : HasInHand o.reader reader o.seat mid o.writer between in_hand)
      → seat.accepted ≡ mid.accepted → Moves o.seat seat o.writer writer at.frames
      → IsSent (Refused NoMemory) o.seat.chain at.frames o.writer writer
      → ServesTo StreamStopsAt past (Refused NoMemory) o.reader reader o.seat seat o.writer writer
  fed_up in_hand mid seat between writer ahead unclosed at same moved sent = record {
    frames = at.frames;
    read = read_in_hand in_hand past o.reader at.before reader o.seat seat at.frames
        (takes_of o.reader at.before o.seat mid o.writer between at.frames at.passed) at.holds ahead unclosed;
    count = same ∙ at.passed.moved.count;
    sent = sent;
    torn = λ is. absurd (cc);
    kept = inr (all_kept o.seat seat o.writer writer at.frames is.fresh.kept moved);
    whole = λ is. absurd (cc);
  }

  -- behind its input
  abbrev told_for : Stop → Stop
  told_for Whole = Refused NoMemory
  told_for stop = stop

  stops_up : (stop : Stop) (seat : StreamSeatValue) (frames : List FrameText) → IsUseful stop
      → StopsReading past stop o.reader reader o.seat seat frames
      → StopsReadingAt StreamStopsAt past (told_for stop) o.reader reader o.seat seat frames
  stops_up Whole seat frames useful a =
      record { rest = a.rest; each = a.each; taken = a.taken; stops = inr (inl a.stops); reads = a.reads }
  stops_up (Read fault) seat frames useful a =
      record { rest = a.rest; each = a.each; taken = a.taken; stops = inl a.stops; reads = a.reads }
  stops_up (Refused cause) seat frames useful a =
      record { rest = a.rest; each = a.each; taken = a.taken; stops = inl a.stops; reads = a.reads }
  stops_up (Write fault) seat frames useful a = absurd useful
  stops_up Torn seat frames useful a = absurd useful

  same_told : (stop first told : Stop) → first ≡ stop → IsFirst first (Refused NoMemory) told → told ≡ told_for stop
  same_told Whole first told is behind = subst (λ (s : Stop). IsFirst s (Refused NoMemory) told) is behind
  same_told (Read fault) first told is behind = subst (λ (s : Stop). IsFirst s (Refused NoMemory) told) is behind
  same_told (Refused cause) first told is behind = subst (λ (s : Stop). IsFirst s (Refused NoMemory) told) is behind
  same_told (Write fault) first told is behind = subst (λ (s : Stop). IsFirst s (Refused NoMemory) told) is behind
  same_told Torn first told is behind = subst (λ (s : Stop). IsFirst s (Refused NoMemory) told) is behind

  first_well : (stop ended first : Stop) → ended ≡ Whole → IsFirst stop ended first → first ≡ stop
  first_well Whole ended first well is = is ∙ well
  first_well (Read fault) ended first well is = is
  first_well (Refused cause) ended first well is = is
  first_well (Write fault) ended first well is = is
  first_well Torn ended first well is = is

  not_told : (stop : Stop) → IsUseful stop → told_for stop ≡ Whole → ⊥
  not_told Whole useful is = cc
  not_told (Read fault) useful is = cc
  not_told (Refused cause) useful is = cc
  not_told (Write fault) useful is = useful
  not_told Torn useful is = useful

  not_torn : (stop : Stop) → IsUseful stop → told_for stop ≡ Torn → ⊥
  not_torn Whole useful is = cc
  not_torn (Read fault) useful is = cc
  not_torn (Refused cause) useful is = cc
  not_torn (Write fault) useful is = useful
  not_torn Torn useful is = useful

  drained_up : (stop : Stop) (mid seat : StreamSeatValue) (writer : WriterState) (frames : List FrameText) → IsUseful stop
      → seat.calls ≡ mid.calls → StopsReading past stop o.reader reader o.seat mid frames
      → seat.accepted ≡ o.seat.accepted + length frames → Moves o.seat (as_open seat) o.writer writer frames
      → IsSent (told_for stop) o.seat.chain frames o.writer writer
      → ServesTo StreamStopsAt past (told_for stop) o.reader reader o.seat seat o.writer writer
  drained_up stop mid seat writer frames useful same a count moved sent =
      let read = read_by past past stop o.reader reader o.seat mid seat frames (ap (λ (c : CallsValue). past ++ c.list) same) a in
      record {
        frames = frames;
        read = stops_up stop seat frames useful read;
        count = count;
        sent = sent;
        torn = λ is. absurd (not_torn stop useful is);
        kept = inr (all_kept o.seat (as_open seat) o.writer writer frames is.fresh.kept moved);
        whole = λ is. absurd (not_told stop useful is);
      }

  no_write : (stop : Stop) → IsUseful stop → (f : WriteFault) → told_for stop ≡ Write f → ⊥
  no_write Whole useful f same = cc
  no_write (Read fault) useful f same = cc
  no_write (Refused cause) useful f same = cc
  no_write (Write fault) useful f same = useful
  no_write Torn useful f same = useful

  -- what moved, where the image in hand was written to its end
  moved_pair : (pair : Collected) (seat : StreamSeatValue) (before writer writer' : WriterState) (frames : List FrameText)
      → IsBegunPair seat.chain pair before writer → Moves o.seat (with_kept pair seat) o.writer before frames
      → PutsFrame before writer' (frame_text_of pair.image) → Moves o.seat seat o.writer writer' frames
  moved_pair pair seat before writer writer' frames begun moved put = rw (append-nil frames) at
      (Moves-trans o.seat (with_kept pair seat) seat o.writer before writer' frames [] moved
      (Moves-finish pair seat before writer writer' begun put))

  -- all that moved went out
  sent_moved : (stop : Stop) (seat : StreamSeatValue) (writer' : WriterState) (frames : List FrameText)
      → ((f : WriteFault) → stop ≡ Write f → ⊥) → Moves o.seat seat o.writer writer' frames
      → IsSent stop o.seat.chain frames o.writer writer'
  sent_moved stop seat writer' frames other moved =
      inl (sends_whole o.seat o.writer frames is.fresh.kept is.writing seat writer' moved, other)

  -- a fault is held, with a frame in hand if there is one
  held_given : (in_hand : Option FrameText) (held : Stop) (seat : StreamSeatValue) (writer : WriterState)
      → IsReadAhead reader.rest reader.left → ShowsClose past seat → Spoils held o reader seat writer in_hand
      → ServesTo StreamStopsAt past held o.reader reader o.seat seat o.writer writer
  held_given None held seat writer ahead shown at =
      held_up held o reader seat writer past at ahead (shown (at.is_closed ∙ is.fresh.is_open))
  held_given (Some frame) held seat writer ahead shown at =
      serves_more past held o reader seat writer (held_told held o reader seat writer frame past at)

  -- the image in hand couldn't be written to its end
  fed_fault : (in_hand : Option FrameText) (pair : Collected) (seat : StreamSeatValue) (before writer writer' : WriterState)
      (fault : WriteFault) → IsReadAhead reader.rest reader.left → ShowsClose past seat → IsBegunPair seat.chain pair before writer
      → HasInHand o.reader reader o.seat (with_kept pair seat) o.writer before in_hand
      → FailsToPut before writer' (frame_text_of pair.image) fault
      → ServesTo StreamStopsAt past (Write fault) o.reader reader o.seat seat o.writer writer'
  fed_fault in_hand pair seat before writer writer' fault ahead shown begun at cut =
      held_given in_hand (Write fault) seat writer' ahead shown
      (spoilt_behind (Write fault) o in_hand reader (with_kept pair seat) seat before writer' is at
      (Cuts-finish pair seat before writer writer' fault begun cut) (GivesUp-kept pair seat) (λ useful. useful))

  drained_fault : (stop first : Stop) (pair : Collected) (seat : StreamSeatValue) (before writer writer' : WriterState)
      (fault : WriteFault) → IsUseful stop → IsFirst stop (Write fault) first → IsBegunPair seat.chain pair before writer
      → Feeds past stop o.reader reader o.seat (as_open (with_kept pair seat)) o.writer before
      → FailsToPut before writer' (frame_text_of pair.image) fault
      → ServesTo StreamStopsAt past first o.reader reader o.seat seat o.writer writer'
  drained_fault stop first pair seat before writer writer' fault useful now begun a cut =
      serves_more past first o reader seat writer'
      (Serves-drained past o.reader reader o.seat o.writer is.fresh.kept is.writing stop (Write fault) first (with_kept pair seat) seat
      before writer' useful a (Cuts-finish pair seat before writer writer' fault begun cut) tt (λ same. absurd (cc)) refl
      (TalliesSeat-kept pair seat) now)

  pub given_up : (course : CourseValue) (seat : StreamSeatValue) (writer writer' : WriterState) (ended first told : Stop)
      → IsReadAhead reader.rest reader.left → ShowsClose past seat → IsAt course past o reader seat writer
      → EndsImage (course_image course) seat.chain ended writer writer' → IsFirst (stop_kept course) ended first
      → IsFirst first (Refused NoMemory) told → ServesTo StreamStopsAt past told o.reader reader o.seat seat o.writer writer'
  given_up (Feeding in_hand None) seat writer writer' ended first told ahead shown at e now behind =
      rw (e.1, given_for_none ended first told behind e.0 now) (fed_up in_hand seat seat writer writer ahead
      (shown (at.passed.moved.seat_stays.is_closed ∙ is.fresh.is_open)) at refl at.passed.moved
      (sent_moved (Refused NoMemory) seat writer at.frames (λ f is. absurd (cc)) at.passed.moved))
  given_up (Feeding in_hand (Some pair)) seat writer writer' ended first told ahead shown at e now behind = elim (e at.0 at.1) [
    | inl well ↦
        let moved = moved_pair pair seat at.0 writer writer' at.2.frames at.1 at.2.passed.moved well.1 in
        rw (given_for_none ended first told behind well.0 now)
        (fed_up in_hand (with_kept pair seat) seat at.0 writer' ahead (shown (at.2.passed.moved.seat_stays.is_closed ∙ is.fresh.is_open))
        at.2 refl moved (sent_moved (Refused NoMemory) seat writer' at.2.frames (λ f is. absurd (cc)) moved))
    | inr cut ↦ rw (given_for_fault ended first told behind (Write cut.0) (λ is. cc) (now ∙ cut.1))
        (fed_fault in_hand pair seat at.0 writer writer' cut.0 ahead shown at.1 at.2 cut.2)
  ]
  given_up (Holding in_hand held) seat writer writer' ended first told ahead shown at e now behind =
      let fault : held ≡ Whole → ⊥ = of_no_use held at.spoilt in
      rw (e.1, given_for_fault ended first told behind held fault (first_kept held ended first fault now))
      (held_given in_hand held seat writer ahead shown at)
  given_up (Draining stop None) seat writer writer' ended first told ahead shown at e now behind =
      let a = at.1 in
      let moved = moves_until stop o.seat (as_open seat) o.writer writer a.frames at.0 a.moved in
      rw (e.1, same_told stop first told (first_well stop ended first e.0 now) behind)
      (drained_up stop (as_open seat) seat writer a.frames at.0 refl a.read a.count moved
      (sent_moved (told_for stop) (as_open seat) writer a.frames (no_write stop at.0) moved))
  given_up (Draining stop (Some pair)) seat writer writer' ended first told ahead shown at e now behind =
      let a = at.1.2 in
      let kept = as_open (with_kept pair seat) in
      let moved = moves_until stop o.seat kept o.writer at.1.0 a.frames at.0 a.moved in
      elim (e at.1.0 at.1.1) [
        | inl well ↦
            let all = moved_pair pair (as_open seat) at.1.0 writer writer' a.frames at.1.1 moved well.1 in
            rw (same_told stop first told (first_well stop ended first well.0 now) behind)
            (drained_up stop kept seat writer' a.frames at.0 refl a.read a.count all
            (sent_moved (told_for stop) (as_open seat) writer' a.frames (no_write stop at.0) all))
        | inr cut ↦
            let then : IsFirst stop (Write cut.0) first = subst (λ (s : Stop). IsFirst stop s first) cut.1 now in
            rw (given_for_fault ended first told behind first (first_fault stop (Write cut.0) first then (λ useful. useful)) refl)
            (drained_fault stop first pair seat at.1.0 writer writer' cut.0 at.0 then at.1.1 a cut.2)
      ]
  given_up (Discarding stop) seat writer writer' ended first told ahead shown at e now behind =
      rw (e.1, given_for_fault ended first told behind stop at.0.0 (first_kept stop ended first at.0.0 now))
      (serves_more past stop o reader seat writer at.0.2)

-- a client's end is told as that of its stream

stops_so : (start : ClientStart) (end : ClientOutcome) (at : ClientProgress)
    → WroteNothing start end ⊎ CutsHeader start end ⊎ ClientStopsAt end.stop at
    → WroteNothing start end ⊎ CutsHeader start end ⊎ StreamStopsAt end.stop at
stops_so start end at (inl a) = inl a
stops_so start end at (inr (inl a)) = inr (inl a)
stops_so start end at (inr (inr a)) = inr (inr (inl a))

pub over_told : (served : ServedValue) → IsOver (Over served.outcome) served
over_told served = record {
  ends = λ start past seat done.
      let a = done.0 in
      record {
        frames = a.frames;
        rest = a.rest;
        each = a.each;
        taken = a.taken;
        count = a.count;
        stops = stops_so start served.outcome _ a.stops;
        reads = a.reads;
        out = a.out;
        whole = a.whole;
        kept = a.kept;
        drained = a.drained;
        number = a.number;
        spec = a.spec;
        accepted = a.accepted;
        offers = a.offers;
        collections = a.collections;
        before = a.before;
        torn = a.torn;
        told = a.told;
      };
  stop = λ is. is;
  kept = ((λ fault. refl), refl);
  own = λ over start past seat done. done;
}
