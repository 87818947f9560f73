-- What a client comes to that holds a fault of a delivery.
use Rattle.std.proofs.Common.{◌≡◌, ◌≢◌, ◌⊎◌, ℕ, ◌+◌, List, [], ◌++◌, length, Option, None, Some, refl, sym, ap, ◌∙◌}
use Rattle.std.proofs.Common.{append-nil, append_assoc, length-append, arith, subst, inl, inr, IsSome}
use Rattle.filters.specs.Chain.{ChainValue}
use Rattle.y4m_header.specs.StreamText.{FrameText}
use Rattle.y4m_stream.specs.declared.fault.ReadFault.{ReadFault}
use Rattle.y4m_stream.specs.declared.fault.ReadFault.TheVariants.{Device, Failed, Header, LineTooLong, NotFrame, Truncated}
use Rattle.y4m_stream.specs.declared.fault.ReadFault.TheVariants as faults
use Rattle.y4m_stream.specs.declared.fault.WriteFault.{WriteFault}
use Rattle.y4m_stream.specs.Failures.{one_more}
use Rattle.y4m_stream.specs.Filtered.{HasNext}
use Rattle.y4m_stream.specs.Front.{IsReadAhead}
use Rattle.y4m_stream.specs.Reader.{ReaderState, TakesFrame, data_len_of, failures_at}
use Rattle.y4m_stream.specs.Writer.{WriterState}
use Rattle.serve_hub.specs.declared.entry.Act.{Act}
use Rattle.serve_hub.specs.Seats.{StreamSeatValue}
use Rattle.serve_client.specs.declared.stop.Cause.TheVariants.{TooManyFrames, ClockEnd, NoMemory}
use Rattle.serve_client.specs.declared.stop.Halt.TheVariants.{Stopped}
use Rattle.serve_client.specs.declared.stop.Stop.{Stop}
use Rattle.serve_client.specs.declared.stop.Stop.TheVariants.{Whole, Read, Write, Refused, Torn}
use Rattle.serve_client.specs.Clients.{ClientProgress, ClientStopsAt, CountsReads, GivesUpAt, HasLaterFault, HasMoreOrEnds, IsUnclosed}
use Rattle.serve_client.specs.Clients.{StandsOpen, StreamStopsAt}
use Rattle.serve_client.specs.ClientInside.{Breaks, Feeds, GivesUp, HasInHand, Holds, IsFirst, IsNoWrite, IsOfCollection, IsUseful}
use Rattle.serve_client.specs.ClientInside.{StopsReading, StopsReadingAt, StopsWith, Takes}
use Rattle.serve_client.specs.Sends.{IsSent, IsSpoilt, SendsWhole, Serves, ServesTo}
use Rattle.serve_client.specs.Rests.{IsOutset, Outset, Spoils}
use Rattle.serve_client.proofs.Staying.{stays_frames}
use Rattle.serve_client.proofs.Moving.{StopsWith-later}
use Rattle.serve_client.proofs.Passing.{Takes-behind, read_behind, takes_of}
use Rattle.serve_client.proofs.Keeping.{spoilt_stays}
use Rattle.serve_client.proofs.Stopping.{first_fault, read_until, sent_until, stopped_torn}

-- what went out of some frames, where another stop is told that isn't another write fault
pub sent_told : (chain : ChainValue) (frames : List FrameText) (writer writer' : WriterState) (stop told : Stop)
    → ((f : WriteFault) → told ≡ Write f → stop ≡ Write f) → IsSent stop chain frames writer writer'
    → IsSent told chain frames writer writer'
sent_told chain frames writer writer' stop told same (inl a) = inl (a.0, λ f is. a.1 f (same f is))
sent_told chain frames writer writer' stop told same (inr a) = inr (a.0, a.1, λ f is. a.2 f (same f is))

-- and of these frames and more
module _ (chain : ChainValue) (frames more : List FrameText) (writer : WriterState) where
  whole_more : (writer' : WriterState) → SendsWhole chain frames writer writer' → SendsWhole chain (frames ++ more) writer writer'
  whole_more writer' a = record {
    out = record {
      sent = a.out.sent;
      later = a.out.later ++ more;
      images = a.out.images;
      first = ap (λ (l : List FrameText). l ++ more) a.out.first ∙ append_assoc a.out.sent a.out.later more;
      made = a.out.made;
      wrote = a.out.wrote;
      bytes = a.out.bytes;
      frames_out = a.out.frames_out;
    };
    writing = a.writing;
    no_failure = a.no_failure;
  }

  sent_more : (writer' : WriterState) (stop : Stop) → IsSent stop chain frames writer writer'
      → IsSent stop chain (frames ++ more) writer writer'
  unfolding whole_more
  sent_more writer' stop (inl a) = inl (whole_more writer' a.0, a.1)
  sent_more writer' stop (inr a) = inr (
    a.0,
    record {
      between = a.1.between;
      whole = whole_more a.1.between a.1.whole;
      next = a.1.next;
      later = a.1.later ++ more;
      oldest = ap (λ (l : List FrameText). l ++ more) a.1.oldest;
      image = a.1.image;
      made = a.1.made;
      cut = a.1.cut;
    },
    a.2,
  )

-- a stop that is held
held_at : (held : Stop) (at : ClientProgress) → (IsUseful held → ⊥) → HasMoreOrEnds at → ClientStopsAt held at
held_at Whole at spoilt more = absurd (spoilt tt)
held_at (Read fault) at spoilt more = absurd (spoilt tt)
held_at (Refused cause) at spoilt more = absurd (spoilt tt)
held_at (Write fault) at spoilt more = inl more
held_at Torn at spoilt more = inl more

-- and a stop that came later, which it hides
fault_behind : (stop : Stop) (at : ClientProgress) → IsNoWrite stop → ClientStopsAt stop at → HasMoreOrEnds at ⊎ HasLaterFault at
fault_behind Whole at own a = inl (inr a)
fault_behind (Read fault) at own a = inr (inl (fault, a))
fault_behind (Refused TooManyFrames) at own a = inl (inl a.1)
fault_behind (Refused ClockEnd) at own a = inl (inl a)
fault_behind (Refused NoMemory) at own a = inl (inl a)
fault_behind (Write fault) at own a = absurd own
fault_behind Torn at own a = a

hides_at : (held : Stop) (at : ClientProgress) → (IsUseful held → ⊥) → HasMoreOrEnds at ⊎ HasLaterFault at → ClientStopsAt held at
hides_at Whole at spoilt a = absurd (spoilt tt)
hides_at (Read fault) at spoilt a = absurd (spoilt tt)
hides_at (Refused cause) at spoilt a = absurd (spoilt tt)
hides_at (Write fault) at spoilt a = a
hides_at Torn at spoilt a = a

held_open : (held : Stop) (at : ClientProgress) → (IsUseful held → ⊥) → StandsOpen at → GivesUpAt held at
held_open Whole at spoilt stands = absurd (spoilt tt)
held_open (Read fault) at spoilt stands = absurd (spoilt tt)
held_open (Refused cause) at spoilt stands = absurd (spoilt tt)
held_open (Write fault) at spoilt stands = stands
held_open Torn at spoilt stands = stands

read_failed : (fault : ReadFault) (old new : ℕ) → new ≡ failures_at fault old → (new ≡ old) ⊎ (new ≡ one_more old)
read_failed Device old new e = inr e
read_failed LineTooLong old new e = inl e
read_failed (Header fault) old new e = inl e
read_failed NotFrame old new e = inl e
read_failed Truncated old new e = inl e
read_failed faults.NoMemory old new e = inl e
read_failed Failed old new e = inl e

counts_behind : (stop : Stop) (old new : ℕ) → CountsReads stop old new → (new ≡ old) ⊎ (new ≡ one_more old)
counts_behind Whole old new e = inl e
counts_behind (Read fault) old new e = read_failed fault old new e
counts_behind (Refused cause) old new e = inl e
counts_behind (Write fault) old new e = e
counts_behind Torn old new e = e

reads_held : (held : Stop) (old new : ℕ) → (IsUseful held → ⊥) → (new ≡ old) ⊎ (new ≡ one_more old) → CountsReads held old new
reads_held Whole old new spoilt e = absurd (spoilt tt)
reads_held (Read fault) old new spoilt e = absurd (spoilt tt)
reads_held (Refused cause) old new spoilt e = absurd (spoilt tt)
reads_held (Write fault) old new spoilt e = e
reads_held Torn old new spoilt e = e

-- the frame in hand stands behind those that were taken
next_behind : (reader before reader' : ReaderState) (frames : List FrameText) (frame : FrameText) → Takes reader before frames
    → TakesFrame before reader' frame → HasNext (data_len_of reader.header) before.rest reader'.left
next_behind reader before reader' frames frame a one = record {
  frame = frame;
  more = reader'.rest;
  is_frame = rw a.header at one.is_frame;
  taken = one.taken;
  ahead = one.ahead;
}

-- a client is given up that reads, with a frame in hand or with what was read ahead
pub read_in_hand : (in_hand : Option FrameText) (past : List Act) (reader before reader' : ReaderState) (seat seat' : StreamSeatValue)
    (frames : List FrameText) → Takes reader before frames → Holds before reader' in_hand → IsReadAhead reader'.rest reader'.left
    → IsUnclosed (past ++ seat'.calls.list) → StopsReadingAt StreamStopsAt past (Refused NoMemory) reader reader' seat seat' frames
read_in_hand None past reader before reader' seat seat' frames a same ahead unclosed = record {
  rest = before.rest;
  each = a.each;
  taken = a.taken;
  stops = inr (inr (unclosed, subst (λ (r : ReaderState). IsReadAhead r.rest reader'.left) same ahead));
  reads = ap (λ (r : ReaderState). r.failures) same ∙ a.no_failure;
}
read_in_hand (Some frame) past reader before reader' seat seat' frames a one ahead unclosed = record {
  rest = before.rest;
  each = a.each;
  taken = a.taken;
  stops = inl (next_behind reader before reader' frames frame a one.0);
  reads = one.0.no_failure ∙ a.no_failure;
}

-- an image didn't go out, and a frame may be in hand
pub spoilt_behind : (stop : Stop) (o : Outset) (in_hand : Option FrameText) (reader : ReaderState) (mid seat : StreamSeatValue)
    (between writer : WriterState) → IsOutset o → HasInHand o.reader reader o.seat mid o.writer between in_hand
    → StopsWith stop mid seat between writer [] → GivesUp mid seat → (IsUseful stop → ⊥) → Spoils stop o reader seat writer in_hand
spoilt_behind stop o in_hand reader mid seat between writer is at moved stays spoilt =
    let all : StopsWith stop o.seat seat o.writer writer at.frames = rw (append-nil at.frames) at
    (StopsWith-later stop o.seat mid seat o.writer between writer at.frames [] at.passed.moved moved) in
    record {
      before = at.before;
      frames = at.frames;
      read = takes_of o.reader at.before o.seat mid o.writer between at.frames at.passed;
      count = ap (λ (s : StreamSeatValue). s.accepted) stays ∙ at.passed.moved.count;
      most = ap (λ (s : StreamSeatValue). s.frames) stays ∙ stays_frames o.seat mid at.passed.moved.seat_stays;
      is_closed = ap (λ (s : StreamSeatValue). s.is_closed) stays ∙ at.passed.moved.seat_stays.is_closed;
      torn = λ is. stopped_torn stop mid seat between writer [] is moved;
      sent = sent_until o.seat o.writer at.frames is.fresh.kept is.writing stop stop seat writer (λ f e. e) all;
      spoilt = spoilt;
      holds = at.holds;
      is_open = at.is_open;
    }

-- a fault of a delivery is held from here on
pub spoilt_from : (stop : Stop) (o : Outset) (reader' : ReaderState) (seat' : StreamSeatValue) (writer' : WriterState) → IsOutset o
    → Breaks stop o.reader reader' o.seat seat' o.writer writer' → Spoils stop o reader' seat' writer' None
spoilt_from stop o reader' seat' writer' is b =
    spoilt_behind stop o None reader' b.mid seat' b.between writer' is
    (record { before = reader'; frames = b.frames; passed = b.passed; holds = refl; is_open = b.is_open }) b.moved b.stays b.spoilt

-- nothing more is written behind a stop of no use
sent_spoilt : (held : Stop) (chain : ChainValue) (frames : List FrameText) (writer writer' : WriterState) (seat : StreamSeatValue)
    → (IsUseful held → ⊥) → (held ≡ Torn → IsSome seat.torn) → IsSent held chain frames writer writer' → IsSpoilt writer' seat
sent_spoilt Whole chain frames writer writer' seat spoilt torn a = absurd (spoilt tt)
sent_spoilt (Read fault) chain frames writer writer' seat spoilt torn a = absurd (spoilt tt)
sent_spoilt (Refused cause) chain frames writer writer' seat spoilt torn a = absurd (spoilt tt)
sent_spoilt (Write fault) chain frames writer writer' seat spoilt torn (inl a) = absurd (a.1 fault refl)
sent_spoilt (Write fault) chain frames writer writer' seat spoilt torn (inr a) = inl (ap (λ (w : WriterState). w.failed) a.1.cut.failed)
sent_spoilt Torn chain frames writer writer' seat spoilt torn a = inr (torn refl)

-- nor while frames are offered
torn_offered : (stop : Stop) (seat seat' : StreamSeatValue) (writer : WriterState) (frames : List FrameText) → IsNoWrite stop
    → StopsWith stop seat seat' writer writer frames → IsSome seat.torn → IsSome seat'.torn
torn_offered Whole seat seat' writer frames own a torn = subst IsSome (sym a.seat_stays.torn) torn
torn_offered (Read fault) seat seat' writer frames own a torn = subst IsSome (sym a.seat_stays.torn) torn
torn_offered (Refused cause) seat seat' writer frames own a torn = subst IsSome (sym a.seat_stays.torn) torn
torn_offered (Write fault) seat seat' writer frames own a torn = absurd own
torn_offered Torn seat seat' writer frames own a torn = a.2

pub spoilt_offered : (stop : Stop) (seat seat' : StreamSeatValue) (writer : WriterState) (frames : List FrameText) → IsNoWrite stop
    → StopsWith stop seat seat' writer writer frames → IsSpoilt writer seat → IsSpoilt writer seat'
spoilt_offered stop seat seat' writer frames own a (inl failed) = inl failed
spoilt_offered stop seat seat' writer frames own a (inr torn) = inr (torn_offered stop seat seat' writer frames own a torn)

-- where a fault is held
module _ (held : Stop) (o : Outset) (reader : ReaderState) (seat : StreamSeatValue) (writer : WriterState) where
  -- nothing more is written
  pub held_spoilt : (in_hand : Option FrameText) → Spoils held o reader seat writer in_hand → IsSpoilt writer seat
  held_spoilt in_hand a = sent_spoilt held o.seat.chain a.frames o.writer writer seat a.spoilt a.torn a.sent

  -- more frames are offered
  pub spoilt_on : (in_hand next : Option FrameText) (a : Spoils held o reader seat writer in_hand) (reader' : ReaderState)
      (seat' : StreamSeatValue) → HasInHand a.before reader' seat seat' writer writer next → Spoils held o reader' seat' writer next
  spoilt_on in_hand next a reader' seat' b = record {
    before = b.before;
    frames = a.frames ++ b.frames;
    read = Takes-behind o.reader a.before b.before a.frames b.frames a.read
        (takes_of a.before b.before seat seat' writer writer b.frames b.passed);
    count = omega (arith, a.count, b.passed.moved.count, length-append a.frames b.frames);
    most = stays_frames seat seat' b.passed.moved.seat_stays ∙ a.most;
    is_closed = b.passed.moved.seat_stays.is_closed ∙ a.is_closed;
    torn = λ is. subst IsSome (sym b.passed.moved.seat_stays.torn) (a.torn is);
    sent = sent_more o.seat.chain a.frames b.frames o.writer writer held a.sent;
    spoilt = a.spoilt;
    holds = b.holds;
    is_open = b.is_open;
  }

  -- it is told where the client is given up, with what was read ahead
  pub held_up : (past : List Act) → Spoils held o reader seat writer None → IsReadAhead reader.rest reader.left
      → IsUnclosed (past ++ seat.calls.list) → ServesTo StreamStopsAt past held o.reader reader o.seat seat o.writer writer
  held_up past a ahead unclosed = record {
    frames = a.frames;
    read = record {
      rest = a.before.rest;
      each = a.read.each;
      taken = a.read.taken;
      stops = inr (held_open held _ a.spoilt (unclosed, subst (λ (r : ReaderState). IsReadAhead r.rest reader.left) a.holds ahead));
      reads = reads_held held o.reader.failures reader.failures a.spoilt
          (inl (ap (λ (r : ReaderState). r.failures) a.holds ∙ a.read.no_failure));
    };
    count = a.count;
    sent = a.sent;
    torn = a.torn;
    kept = inl (held_spoilt None a);
    whole = λ is. absurd (a.spoilt (subst IsUseful (sym is) tt));
  }

  -- it is told, with a frame in hand
  pub held_told : (frame : FrameText) (past : List Act) → Spoils held o reader seat writer (Some frame)
      → Serves past held o.reader reader o.seat seat o.writer writer
  held_told frame past a = record {
    frames = a.frames;
    read = record {
      rest = a.before.rest;
      each = a.read.each;
      taken = a.read.taken;
      stops = held_at held _ a.spoilt (inl (next_behind o.reader a.before reader a.frames frame a.read a.holds.0));
      reads = reads_held held o.reader.failures reader.failures a.spoilt (inl (a.holds.0.no_failure ∙ a.read.no_failure));
    };
    count = a.count;
    sent = a.sent;
    torn = a.torn;
    kept = inl (held_spoilt (Some frame) a);
    whole = λ is. absurd (a.spoilt (subst IsUseful (sym is) tt));
  }

  -- it is told, and hides a stop that comes behind it
  pub spoilt_until : (in_hand : Option FrameText) (a : Spoils held o reader seat writer in_hand) (past : List Act) (stop : Stop)
      (reader' : ReaderState) (seat' : StreamSeatValue) → IsNoWrite stop → Feeds past stop a.before reader' seat seat' writer writer
      → Serves past held o.reader reader' o.seat seat' o.writer writer
  spoilt_until in_hand a past stop reader' seat' own b =
      let frames = a.frames ++ b.frames in
      let read = read_behind past stop o.reader a.before reader' o.seat seat seat' a.frames b.frames a.read a.count a.most b.read in
      record {
        frames = frames;
        read = record {
          rest = read.rest;
          each = read.each;
          taken = read.taken;
          stops = hides_at held _ a.spoilt (fault_behind stop _ own read.stops);
          reads = reads_held held o.reader.failures reader'.failures a.spoilt
              (counts_behind stop o.reader.failures reader'.failures read.reads);
        };
        count = omega (arith, a.count, b.count, length-append a.frames b.frames);
        sent = sent_more o.seat.chain a.frames b.frames o.writer writer held a.sent;
        torn = λ is. torn_offered stop seat seat' writer b.frames own b.moved (a.torn is);
        kept = inl (spoilt_offered stop seat seat' writer b.frames own b.moved (held_spoilt in_hand a));
        whole = λ is. absurd (a.spoilt (subst IsUseful (sym is) tt));
      }
