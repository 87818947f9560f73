-- A stream stands where it stood where its seats have another number.
use Rattle.std.specs.Prelude.{IsSomeAnd, IsTrue, filter, take}
use Rattle.std.proofs.Common.{ℕ, zero, suc, ◌≡◌, ◌⊎◌, ◌++◌, Bool, true, false, not, if◌then◌else◌, List, [], ◌∷◌, Option, None, Some}
use Rattle.std.proofs.Common.{inl, inr, length, refl, ap, ◌∙◌, subst}
use Rattle.y4m_header.specs.StreamText.{FrameText}
use Rattle.y4m_stream.specs.Reader.{ReaderState, data_len_of}
use Rattle.y4m_stream.specs.Writer.{WriterState}
use Rattle.serve_core.specs.Released.{is_released}
use Rattle.serve_core.specs.Retired.{new_number, retired_schedule, stays}
use Rattle.serve_core.specs.Schedule.{HasStream, ScheduleValue}
use Rattle.serve_core.specs.Streams.{KeptStream}
use Rattle.serve_core.proofs.Schedules.Retiring.{number_is}
use Rattle.serve_hub.specs.declared.entry.Act.{Act}
use Rattle.serve_hub.specs.Seats.{StreamSeatValue}
use Rattle.serve_client.specs.declared.stop.Stop.{Stop}
use Rattle.serve_client.specs.Clients.{ClientEnds, ClientOutcome, ClientStart, ClientStopsAt, CutsHeader, WroteImages}
use Rattle.serve_client.specs.Clients.{WroteNothing}
use Rattle.serve_client.specs.ClientInside.{Feeds, HasInHand, IsUseful, Moves, Passes, StopsReading}
use Rattle.serve_client.specs.Hands.{with_kept}
use Rattle.serve_client.specs.Rests.{Begun, CourseValue, Discarding, Draining, Feeding, Holding, IsAt, IsFresh}
use Rattle.serve_client.specs.Rests.{IsRestOf, RestValue, Unbegun, as_open}
use Rattle.serve_client.specs.Streams.{Over, StandsAt, StreamValue, Waiting}
use Rattle.serve_client.specs.Sends.{Serves}
use Rattle.serve_client.proofs.Stopping.{moves_until, until_moves}
use Rattle.serve_work.specs.Live.{IsKept, numbered}

abbrev pub starting : ℕ → ClientStart → ClientStart
starting n start = record start { seat = numbered n start.seat }

module _ (n : ℕ) where
  Moves-numbered : (first seat : StreamSeatValue) (writer writer' : WriterState) (frames : List FrameText)
      → Moves first seat writer writer' frames → Moves (numbered n first) (numbered n seat) writer writer' frames
  Moves-numbered first seat writer writer' frames a = record {
    sent = a.sent;
    images = a.images;
    order = a.order;
    made = a.made;
    wrote = a.wrote;
    bytes = a.bytes;
    frames = a.frames;
    count = a.count;
    within = a.within;
    seat_stays = record {
      number = refl;
      spec = a.seat_stays.spec;
      is_closed = a.seat_stays.is_closed;
      torn = a.seat_stays.torn;
    };
    writer_stays = a.writer_stays;
  }

  Passes-numbered : (reader before : ReaderState) (first seat : StreamSeatValue) (writer writer' : WriterState)
      (frames : List FrameText) → Passes reader before first seat writer writer' frames
      → Passes reader before (numbered n first) (numbered n seat) writer writer' frames
  Passes-numbered reader before first seat writer writer' frames a = record {
    each = a.each;
    taken = a.taken;
    moved = Moves-numbered first seat writer writer' frames a.moved;
    header = a.header;
    no_failure = a.no_failure;
  }

  StopsReading-numbered : (past : List Act) (stop : Stop) (reader reader' : ReaderState) (first seat : StreamSeatValue)
      (frames : List FrameText) → StopsReading past stop reader reader' first seat frames
      → StopsReading past stop reader reader' (numbered n first) (numbered n seat) frames
  StopsReading-numbered past stop reader reader' first seat frames a =
      record { rest = a.rest; each = a.each; taken = a.taken; stops = a.stops; reads = a.reads }

  Feeds-numbered : (past : List Act) (stop : Stop) (reader reader' : ReaderState) (first seat : StreamSeatValue)
      (writer writer' : WriterState) → IsUseful stop → Feeds past stop reader reader' first seat writer writer'
      → Feeds past stop reader reader' (numbered n first) (numbered n seat) writer writer'
  Feeds-numbered past stop reader reader' first seat writer writer' useful a = record {
    frames = a.frames;
    read = StopsReading-numbered past stop reader reader' first seat a.frames a.read;
    moved = until_moves stop (numbered n first) (numbered n seat) writer writer' a.frames useful
        (Moves-numbered first seat writer writer' a.frames
        (moves_until stop first seat writer writer' a.frames useful a.moved));
    count = a.count;
  }

  Serves-numbered : (past : List Act) (stop : Stop) (reader reader' : ReaderState) (first seat : StreamSeatValue)
      (writer writer' : WriterState) → Serves past stop reader reader' first seat writer writer'
      → Serves past stop reader reader' (numbered n first) (numbered n seat) writer writer'
  Serves-numbered past stop reader reader' first seat writer writer' a = record {
    frames = a.frames;
    read = StopsReading-numbered past stop reader reader' first seat a.frames a.read;
    count = a.count;
    sent = a.sent;
    torn = a.torn;
    kept = a.kept;
    whole = λ is.
        let all = a.whole is in
        (all.0, all.1, record { closed = all.2.closed; none = all.2.none });
  }

  Fresh-numbered : (seat : StreamSeatValue) → IsFresh seat → IsFresh (numbered n seat)
  Fresh-numbered seat a = record { accepted = a.accepted; kept = a.kept; is_open = a.is_open }

  HasInHand-numbered : (in_hand : Option FrameText) (first seat : StreamSeatValue) (reader reader' : ReaderState)
      (writer writer' : WriterState) → HasInHand reader reader' first seat writer writer' in_hand
      → HasInHand reader reader' (numbered n first) (numbered n seat) writer writer' in_hand
  HasInHand-numbered in_hand first seat reader reader' writer writer' a = record {
    before = a.before;
    frames = a.frames;
    passed = Passes-numbered reader a.before first seat writer writer' a.frames a.passed;
    holds = a.holds;
    is_open = a.is_open;
  }

  IsAt-numbered : (course : CourseValue) (past : List Act) (first : StreamSeatValue) (reader reader' : ReaderState)
      (writer writer' : WriterState) (seat : StreamSeatValue)
      → IsAt course past (record { reader = reader; seat = first; writer = writer }) reader' seat writer'
      → IsAt course past (record { reader = reader; seat = numbered n first; writer = writer }) reader' (numbered n seat) writer'
  IsAt-numbered (Feeding in_hand None) past first reader reader' writer writer' seat a =
      HasInHand-numbered in_hand first seat reader reader' writer writer' a
  IsAt-numbered (Feeding in_hand (Some pair)) past first reader reader' writer writer' seat a =
      (a.0, a.1, HasInHand-numbered in_hand first (with_kept pair seat) reader reader' writer a.0 a.2)
  IsAt-numbered (Holding in_hand held) past first reader reader' writer writer' seat a = record {
    before = a.before;
    frames = a.frames;
    read = a.read;
    count = a.count;
    most = a.most;
    is_closed = a.is_closed;
    sent = a.sent;
    torn = a.torn;
    spoilt = a.spoilt;
    holds = a.holds;
    is_open = a.is_open;
  }
  IsAt-numbered (Draining stop None) past first reader reader' writer writer' seat a =
      (a.0, Feeds-numbered past stop reader reader' first (as_open seat) writer writer' a.0 a.1, a.2)
  IsAt-numbered (Draining stop (Some pair)) past first reader reader' writer writer' seat a =
      let fed = Feeds-numbered past stop reader reader' first (as_open (with_kept pair seat)) writer a.1.0 a.0 a.1.2 in
      (a.0, (a.1.0, a.1.1, fed), a.2)
  IsAt-numbered (Discarding stop) past first reader reader' writer writer' seat a =
      ((a.0.0, a.0.1, Serves-numbered past stop reader reader' first seat writer writer' a.0.2), a.1)

  rest_numbered : (start : ClientStart) (past : List Act) (seat : StreamSeatValue) (rest : RestValue)
      → IsRestOf start past seat rest → IsRestOf (starting n start) past (numbered n seat) rest
  rest_numbered start past seat (Unbegun reader contents failures) a = record {
    same_reader = a.same_reader;
    same_contents = a.same_contents;
    same_failures = a.same_failures;
    is_open = a.is_open;
    first = Fresh-numbered start.seat a.first;
    fresh = Fresh-numbered seat a.fresh;
    stays = record {
      number = refl;
      spec = a.stays.spec;
      is_closed = a.stays.is_closed;
      torn = a.stays.torn;
    };
    offers = a.offers;
    closes = a.closes;
    before = a.before;
  }
  rest_numbered start past seat (Begun begun) a = record {
    shown = a.shown;
    opened = a.opened;
    header = a.header;
    is_opened = a.is_opened;
    first = Fresh-numbered start.seat a.first;
    at = IsAt-numbered begun.course past start.seat start.reader begun.reader a.opened begun.writer seat a.at;
    same_header = a.same_header;
    tally = record {
      number = refl;
      spec = a.tally.spec;
      offers = a.tally.offers;
      closes = a.tally.closes;
      images = a.tally.images;
      before = a.tally.before;
      torn = a.tally.torn;
    };
    accepted = a.accepted;
    collected = a.collected;
  }

  WroteNothing-numbered : (start : ClientStart) (end : ClientOutcome) → WroteNothing start end → WroteNothing (starting n start) end
  WroteNothing-numbered start end a = record {
    stop = a.stop;
    unread = a.unread;
    unaccepted = a.unaccepted;
    none = a.none;
    kept = a.kept;
    no_failure = a.no_failure;
  }

  CutsHeader-numbered : (start : ClientStart) (end : ClientOutcome) → CutsHeader start end → CutsHeader (starting n start) end
  CutsHeader-numbered start end a = record {
    fault = a.fault;
    stop = a.stop;
    unread = a.unread;
    unaccepted = a.unaccepted;
    none = a.none;
    cut = a.cut;
    failure = a.failure;
  }

  WroteImages-numbered : (frames : List FrameText) (start : ClientStart) (end : ClientOutcome) → WroteImages frames start end
      → WroteImages frames (starting n start) end
  WroteImages-numbered frames start end a = record {
    sent = a.sent;
    later = a.later;
    served = a.served;
    part = a.part;
    first = a.first;
    count = a.count;
    is_served = a.is_served;
    ends = a.ends;
    wrote = a.wrote;
    closed = a.closed;
    told = a.told;
  }

  stops_numbered : (start : ClientStart) (end : ClientOutcome) (at : Type 0)
      → WroteNothing start end ⊎ CutsHeader start end ⊎ at
      → WroteNothing (starting n start) end ⊎ CutsHeader (starting n start) end ⊎ at
  stops_numbered start end at (inl a) = inl (WroteNothing-numbered start end a)
  stops_numbered start end at (inr (inl a)) = inr (inl (CutsHeader-numbered start end a))
  stops_numbered start end at (inr (inr a)) = inr (inr a)

  out_numbered : (frames : List FrameText) (start : ClientStart) (end : ClientOutcome)
      → WroteNothing start end ⊎ CutsHeader start end ⊎ WroteImages frames start end
      → WroteNothing (starting n start) end ⊎ CutsHeader (starting n start) end ⊎ WroteImages frames (starting n start) end
  out_numbered frames start end (inl a) = inl (WroteNothing-numbered start end a)
  out_numbered frames start end (inr (inl a)) = inr (inl (CutsHeader-numbered start end a))
  out_numbered frames start end (inr (inr a)) = inr (inr (WroteImages-numbered frames start end a))

  end_numbered : (start : ClientStart) (past : List Act) (seat : StreamSeatValue) (end : ClientOutcome)
      → ClientEnds start past seat end → ClientEnds (starting n start) past (numbered n seat) end
  end_numbered start past seat end a = record {
    frames = a.frames;
    rest = a.rest;
    each = a.each;
    taken = a.taken;
    count = a.count;
    stops = stops_numbered start end (ClientStopsAt end.stop (record {
      len = data_len_of start.reader.header;
      count = end.accepted;
      most = start.seat.frames;
      rest = a.rest;
      left = end.left;
      calls = past ++ seat.calls.list;
    })) a.stops;
    reads = a.reads;
    out = out_numbered a.frames start end a.out;
    whole = λ is.
        let all = a.whole is in
        record { all = all.all; no_failure = all.no_failure; flushed = all.flushed };
    kept = a.kept;
    drained = λ is.
        let all = a.drained is in
        record { closed = all.closed; none = all.none };
    number = refl;
    spec = a.spec;
    accepted = a.accepted;
    offers = a.offers;
    collections = a.collections;
    before = a.before;
    torn = a.torn;
    told = a.told;
  }

  pub stands_numbered : (start : ClientStart) (past : List Act) (seat : StreamSeatValue) (stream : StreamValue)
      → StandsAt stream start past seat → StandsAt stream (starting n start) past (numbered n seat)
  stands_numbered start past seat (Waiting rest) a = rest_numbered start past seat rest a
  stands_numbered start past seat (Over outcome) a = (end_numbered start past seat outcome a.0, a.1, a.2)

-- what is picked twice is picked once

module _ {A : Type 0} (test : A → Bool) where
  twice_picked : (b : Bool) (x : A) (xs : List A) → test x ≡ b → filter test xs ≡ xs
      → filter test (if b then x ∷ xs else xs) ≡ (if b then x ∷ xs else xs)
  twice_picked true x xs e h = rw e (ap (λ (ys : List A). x ∷ ys) h)
  twice_picked false x xs e h = h

  filter_twice : (xs : List A) → filter test (filter test xs) ≡ filter test xs
  filter_twice [] = refl
  filter_twice (x ∷ xs) = twice_picked (test x) x (filter test xs) refl (filter_twice xs)

  count_picked : (b : Bool) (x : A) (front ys : List A) → test x ≡ b
      → length (filter test (take (length front) ys)) ≡ length front
      → length (filter test (take (length (if b then x ∷ front else front)) (if b then x ∷ ys else ys)))
      ≡ length (if b then x ∷ front else front)
  count_picked true x front ys e h = rw e (ap suc h)
  count_picked false x front ys e h = h

  count_twice : (s : ℕ) (xs : List A)
      → length (filter test (take (length (filter test (take s xs))) (filter test xs))) ≡ length (filter test (take s xs))
  count_twice zero [] = refl
  count_twice zero (x ∷ xs) = refl
  count_twice (suc s) [] = refl
  count_twice (suc s) (x ∷ xs) = count_picked (test x) x (filter test (take s xs)) (filter test xs) refl (count_twice s xs)

abbrev test_at : ScheduleValue → KeptStream → Bool
test_at x stream = not (is_released x.clock stream.state)

pub retired_twice : (x : ScheduleValue) → retired_schedule (retired_schedule x) ≡ retired_schedule x
retired_twice x = ap (λ (streams : List KeptStream). record x { streams = streams }) (filter_twice (test_at x) x.streams)

number_twice : (x : ScheduleValue) (s : ℕ) → new_number (retired_schedule x) (new_number x s) ≡ new_number x s
number_twice x s = count_twice (test_at x) s x.streams

-- a stream that is kept was there before, and the same holds of it
pub stream_before : (last : ScheduleValue) (old : ℕ) (opening : ScheduleValue) (number : ℕ) (P : KeptStream → Type 0)
    → IsKept last old opening number → HasStream opening number P → HasStream last old P
stream_before last old opening number P (inl k) has =
    subst (λ (x : ScheduleValue). HasStream x old P) k.0 (subst (λ (n : ℕ). HasStream opening n P) k.1 has)
stream_before last old opening number P (inr k) has =
    subst (λ (o : Option KeptStream). IsSomeAnd o P) (number_is last old k.1)
    (subst (λ (x : ScheduleValue). HasStream x (new_number last old) P) k.0 (subst (λ (n : ℕ). HasStream opening n P) k.2 has))

-- and where they are taken out once more, and it stays
pub once_more : (last : ScheduleValue) (old : ℕ) (opening : ScheduleValue) (number : ℕ)
    → IsKept last old opening number → IsTrue (stays opening number)
    → IsKept last old (retired_schedule opening) (new_number opening number)
once_more last old opening number (inl k) e =
    inr (
      ap retired_schedule k.0,
      subst (λ (n : ℕ). IsTrue (stays last n)) k.1 (subst (λ (x : ScheduleValue). IsTrue (stays x number)) k.0 e),
      ap (λ (x : ScheduleValue). new_number x number) k.0 ∙ ap (new_number last) k.1,
    )
once_more last old opening number (inr k) e =
    inr (
      ap retired_schedule k.0 ∙ retired_twice last,
      k.1,
      ap (λ (x : ScheduleValue). new_number x number) k.0 ∙ ap (new_number (retired_schedule last)) k.2 ∙ number_twice last old,
    )
