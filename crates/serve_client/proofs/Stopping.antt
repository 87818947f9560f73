-- What a client's frames come to: those that are accepted, why there are no more, and what went out.
use Rattle.std.proofs.Common.{ℕ, ◌≡◌, ◌≢◌, ◌+◌, ◌⊎◌, ◌≤◌, List, [], ◌∷◌, ◌++◌, length, refl, sym, ap, ◌∙◌}
use Rattle.std.proofs.Common.{append-nil, append_assoc, arith, subst, inl, inr, false, Result, Ok, Err, OnOk}
use Rattle.std.proofs.Common.{IfErr, IfSome, IsSome, IsTrue, Option}
use Rattle.filters.specs.ChainImage.{FrameValue}
use Rattle.y4m_header.specs.StreamText.{FrameText}
use Rattle.y4m_stream.specs.declared.fault.WriteFault.{WriteFault}
use Rattle.y4m_stream.specs.Reader.{ReaderState, data_len_of}
use Rattle.y4m_stream.specs.Writer.{IsWriterFor, WriterState}
use Rattle.y4m_header.specs.declared.limits.TheConstants.{MOST_FRAMES}
use Rattle.serve_core.specs.declared.collected.Collected.{Collected}
use Rattle.serve_core.specs.declared.refusal.Refusal as core
use Rattle.serve_core.specs.declared.refusal.Refusal.TheVariants as cores
use Rattle.serve_hub.specs.declared.entry.Act.{Act}
use Rattle.serve_hub.specs.declared.entry.Act.TheVariants as acts
use Rattle.serve_hub.specs.declared.refusal.Refusal.{Refusal}
use Rattle.serve_hub.specs.declared.refusal.Refusal.TheVariants as hub
use Rattle.serve_hub.specs.Calls.{AllowsClose, Closes, IsCloseTold, noted}
use Rattle.serve_hub.specs.Seats.{StreamSeatValue, collected_by}
use Rattle.serve_client.specs.declared.stop.Cause.TheVariants.{TooManyFrames, ClockEnd, NoMemory}
use Rattle.serve_client.specs.declared.stop.Halt.TheVariants.{Stopped}
use Rattle.serve_client.specs.declared.stop.Stop.{Stop}
use Rattle.serve_client.specs.declared.stop.Stop.TheVariants.{Whole, Read, Write, Refused, Torn}
use Rattle.serve_client.specs.Clients.{ClientProgress, ClientStopsAt, HasLaterFault, HasMoreOrEnds, HasOtherNumber, IsClosedUnlessTorn, IsDrained}
use Rattle.serve_client.specs.ClientInside.{Accounted, Cuts, Feeds, IsFirst, IsNoWrite, IsOfCollection, IsUseful}
use Rattle.serve_client.specs.ClientInside.{KeepsMoments, MayClose, Moves, StopsReading, StopsWith, TalliesSeat, texts_of}
use Rattle.serve_client.specs.Sends.{BreaksOff, IsSent, IsSpoilt, SendsWhole, Serves}
use Rattle.serve_client.specs.Rests.{as_open}
use Rattle.serve_client.specs.Hands.{Behind}
use Rattle.serve_client.proofs.Hands.{Behind-map, stood_tally}
use Rattle.serve_client.proofs.Keeping.{spoilt_later, stopped_kept, stopped_spoilt}
use Rattle.serve_client.proofs.Tallying.{TalliesSeat-torn, TalliesSeat-trans, collections_both, none_accepted, offers_both, seat_same}
use Rattle.serve_client.proofs.Tallying.{some_torn, torn_still}
use Rattle.serve_client.proofs.Moving.{Accounted-later, Moves-none, Moves-trans, StopsWith-later, few_of, size_later}

-- what went out

module _ (seat : StreamSeatValue) (writer : WriterState) (frames : List FrameText)
    (none : seat.kept ≡ []) (well : writer.failed ≡ false) where
  pub sends_whole : (seat' : StreamSeatValue) (writer' : WriterState) → Moves seat seat' writer writer' frames
      → SendsWhole seat.chain frames writer writer'
  sends_whole seat' writer' a = record {
    out = record {
      sent = a.sent;
      later = texts_of seat'.kept;
      images = a.images;
      first = ap (λ (kept : List FrameValue). texts_of kept ++ frames) (sym none) ∙ a.order;
      made = a.made;
      wrote = a.wrote;
      bytes = a.bytes;
      frames_out = a.frames;
    };
    writing = ap (λ (w : WriterState). w.failed) a.writer_stays ∙ well;
    no_failure = ap (λ (w : WriterState). w.failures) a.writer_stays;
  }

  breaks_off : (writer' : WriterState) (fault : WriteFault) → Cuts seat writer writer' frames fault
      → BreaksOff seat.chain frames writer writer' fault
  unfolding sends_whole
  breaks_off writer' fault b = record {
    between = b.between;
    whole = sends_whole b.mid b.between b.moved;
    next = b.next;
    later = b.lost;
    oldest = b.oldest;
    image = b.image;
    made = b.made;
    cut = b.cut;
  }

  -- what went out until the last stop, where a write fault of the first is the last's
  pub sent_until : (stop last : Stop) (seat' : StreamSeatValue) (writer' : WriterState)
      → ((fault : WriteFault) → stop ≡ Write fault → last ≡ Write fault)
      → StopsWith last seat seat' writer writer' frames → IsSent stop seat.chain frames writer writer'
  sent_until stop Whole seat' writer' same a =
      inl (sends_whole seat' writer' a, λ f is. subst IsNoWrite (same f is) tt)
  sent_until stop (Read fault) seat' writer' same a =
      inl (sends_whole seat' writer' a, λ f is. subst IsNoWrite (same f is) tt)
  sent_until stop (Refused cause) seat' writer' same a =
      inl (sends_whole seat' writer' a, λ f is. subst IsNoWrite (same f is) tt)
  sent_until stop (Write fault) seat' writer' same a =
      inr (fault, breaks_off writer' fault a, λ f is. let both : Write fault ≡ Write f = same f is in cc)
  sent_until stop Torn seat' writer' same a =
      inl (sends_whole a.0 writer' a.1, λ f is. subst IsNoWrite (same f is) tt)

  -- all that was accepted went out, where nothing is kept
  all_sent : (seat' : StreamSeatValue) (writer' : WriterState) → seat'.kept ≡ [] → Moves seat seat' writer writer' frames
      → (writer'.frames ≡ writer.frames + length frames) × (writer'.failed ≡ false)
  all_sent seat' writer' left a =
      let same : frames ≡ a.sent = ap (λ (kept : List FrameValue). texts_of kept ++ frames) (sym none) ∙ a.order
      ∙ ap (λ (kept : List FrameValue). a.sent ++ texts_of kept) left ∙ append-nil a.sent in (
        a.frames ∙ ap (λ (sent : List FrameText). writer.frames + length sent) (sym same),
        ap (λ (w : WriterState). w.failed) a.writer_stays ∙ well,
      )

-- a seat that is closed

already_closed : (e : core.Refusal) (seat : StreamSeatValue) → AllowsClose seat e → IsTrue seat.is_closed
already_closed cores.NoStream seat allows = absurd allows
already_closed cores.Closed seat allows = absurd allows
already_closed cores.WrongSize seat allows = absurd allows
already_closed cores.TooManyFrames seat allows = absurd allows
already_closed cores.Full seat allows = absurd allows
already_closed cores.NoMemory seat allows = absurd allows
already_closed cores.NoWorker seat allows = absurd allows
already_closed cores.Busy seat allows = absurd allows
already_closed cores.NoneReady seat allows = absurd allows
already_closed cores.NoLease seat allows = absurd allows
already_closed cores.GrantSpent seat allows = absurd allows
already_closed cores.Past seat allows = absurd allows
already_closed cores.ClockEnd seat allows = absurd allows
already_closed cores.AlreadyClosed seat allows = allows
already_closed cores.TooManyStreams seat allows = absurd allows
already_closed cores.BadLimits seat allows = absurd allows
already_closed cores.BadBandwidth seat allows = absurd allows
already_closed cores.Overload seat allows = absurd allows
already_closed cores.Empty seat allows = absurd allows
already_closed cores.Drained seat allows = absurd allows

pub may_close : {T : Type 0} (old new : StreamSeatValue) (result : Result T Refusal) → OnOk result (Closes old new)
    → IfErr result (λ e. IsCloseTold old e × (new ≡ noted e old)) → MayClose old new
may_close old new (Ok t) closed refused = rw closed refl
may_close old new (Err (hub.Core e)) closed refused = rw refused.1 refl
may_close old new (Err hub.HistoryFull) closed refused = rw refused.1 refl
may_close old new (Err hub.StrayLease) closed refused = rw refused.1 refl
may_close old new (Err (hub.Torn c)) closed refused = rw refused.1 refl

pub close_closes : {T : Type 0} (old new : StreamSeatValue) (result : Result T Refusal) → OnOk result (Closes old new)
    → IfErr result (λ e. IsCloseTold old e × (new ≡ noted e old)) → IfErr result (λ e. e ≢ hub.HistoryFull) → IsClosedUnlessTorn new
close_closes old new (Ok t) closed refused reserved = inr (ap (λ (s : StreamSeatValue). s.is_closed) closed)
close_closes old new (Err (hub.Core e)) closed refused reserved =
    inr (ap (λ (s : StreamSeatValue). s.is_closed) refused.1 ∙ already_closed e old refused.0)
close_closes old new (Err hub.HistoryFull) closed refused reserved = absurd (reserved refl)
close_closes old new (Err hub.StrayLease) closed refused reserved = absurd refused.0
close_closes old new (Err (hub.Torn c)) closed refused reserved = inl (some_torn (collected_by old) old new refused.1)

pub close_tally : {T : Type 0} (old new : StreamSeatValue) (result : Result T Refusal) → OnOk result (Closes old new)
    → IfErr result (λ e. IsCloseTold old e × (new ≡ noted e old)) → TalliesSeat old new
close_tally old new (Ok t) closed refused = rw closed (record {
  number = refl;
  spec = refl;
  before = refl;
  added = acts.Closed ∷ [];
  calls = refl;
  offers = omega (arith, offers_both old.calls.list (acts.Closed ∷ []));
  moments = λ none. refl;
  collections = omega (arith, collections_both old.calls.list (acts.Closed ∷ []));
  unclosed = λ is_open. absurd (cc);
  noted = λ n is. is;
  torn = λ none. subst (λ (o : Option ℕ). IfSome o (λ n. collected_by old ≤ n)) (sym none) tt;
})
close_tally old new (Err (hub.Core e)) closed refused = seat_same old new refused.1
close_tally old new (Err hub.HistoryFull) closed refused = seat_same old new refused.1
close_tally old new (Err hub.StrayLease) closed refused = seat_same old new refused.1
close_tally old new (Err (hub.Torn c)) closed refused =
    TalliesSeat-torn (collected_by old) old old new (seat_same old old refl) refl (omega arith) refused.1

pub close_moments : (Gives : ℕ → Type 0) (old new : StreamSeatValue) → TalliesSeat old new → MayClose old new
    → KeepsMoments Gives old new
close_moments Gives old new tally close = none_accepted Gives old new tally (ap (λ (s : StreamSeatValue). s.accepted) close)

-- what a seat moves, it would move as an open one

Moves-open : (seat seat' : StreamSeatValue) (writer writer' : WriterState) (frames : List FrameText)
    → Moves seat seat' writer writer' frames
    → Moves (as_open seat) (as_open seat') writer writer' frames
Moves-open seat seat' writer writer' frames a = record {
  sent = a.sent;
  images = a.images;
  order = a.order;
  made = a.made;
  wrote = a.wrote;
  bytes = a.bytes;
  frames = a.frames;
  count = a.count;
  within = a.within;
  seat_stays = record {
    number = a.seat_stays.number;
    spec = a.seat_stays.spec;
    is_closed = refl;
    torn = a.seat_stays.torn;
  };
  writer_stays = a.writer_stays;
}

StopsWith-open : (stop : Stop) (seat seat' : StreamSeatValue) (writer writer' : WriterState) (frames : List FrameText)
    → StopsWith stop seat seat' writer writer' frames → StopsWith stop (as_open seat) (as_open seat') writer writer' frames
StopsWith-open Whole seat seat' writer writer' frames a = Moves-open seat seat' writer writer' frames a
StopsWith-open (Read fault) seat seat' writer writer' frames a = Moves-open seat seat' writer writer' frames a
StopsWith-open (Refused cause) seat seat' writer writer' frames a = Moves-open seat seat' writer writer' frames a
StopsWith-open (Write fault) seat seat' writer writer' frames a = record {
  mid = as_open a.mid;
  between = a.between;
  moved = Moves-open seat a.mid writer a.between frames a.moved;
  next = a.next;
  lost = a.lost;
  image = a.image;
  oldest = a.oldest;
  made = a.made;
  cut = a.cut;
}
StopsWith-open Torn seat seat' writer writer' frames a = (
  as_open a.0,
  Moves-open seat a.0 writer writer' frames a.1,
  a.2,
)

-- the seat closes its stream behind what it moved
Moves-closed : (seat mid closed : StreamSeatValue) (writer writer' : WriterState) (frames : List FrameText) → seat.is_closed ≡ false
    → MayClose mid closed → closed.torn ≡ mid.torn → Moves seat mid writer writer' frames
    → Moves seat (as_open closed) writer writer' frames
Moves-closed seat mid closed writer writer' frames is_open close untorn a =
    let moved : Moves seat (record mid { calls = closed.calls; is_closed = false; torn = closed.torn }) writer writer' frames = record {
      sent = a.sent;
      images = a.images;
      order = a.order;
      made = a.made;
      wrote = a.wrote;
      bytes = a.bytes;
      frames = a.frames;
      count = a.count;
      within = a.within;
      seat_stays = record {
        number = a.seat_stays.number;
        spec = a.seat_stays.spec;
        is_closed = sym is_open;
        torn = untorn ∙ a.seat_stays.torn;
      };
      writer_stays = a.writer_stays;
    } in
    subst (λ (s : StreamSeatValue). Moves seat s writer writer' frames) (sym (ap as_open close)) moved

-- the first was no fault, and the last is told; or the first is
first_told : (stop last told : Stop) → IsUseful stop → IsFirst stop last told
    → ((stop ≡ Whole) × (told ≡ last)) ⊎ (IsNoWrite stop × (stop ≢ Whole) × (told ≡ stop))
first_told Whole last told p e = inl (refl, e)
first_told (Read fault) last told p e = inr (tt, (λ is. absurd (cc)), e)
first_told (Refused cause) last told p e = inr (tt, (λ is. absurd (cc)), e)
first_told (Write fault) last told p e = absurd p
first_told Torn last told p e = absurd p

-- where the last is a fault, so is what is told
pub first_fault : (stop last told : Stop) → IsFirst stop last told → (IsUseful last → ⊥) → told ≢ Whole
first_fault Whole last told e spoilt is = spoilt (subst IsUseful (sym (sym e ∙ is)) tt)
first_fault (Read fault) last told e spoilt is = let both : Read fault ≡ Whole = sym e ∙ is in absurd (cc)
first_fault (Refused cause) last told e spoilt is = let both : Refused cause ≡ Whole = sym e ∙ is in absurd (cc)
first_fault (Write fault) last told e spoilt is = let both : Write fault ≡ Whole = sym e ∙ is in absurd (cc)
first_fault Torn last told e spoilt is = let both : Torn ≡ Whole = sym e ∙ is in absurd (cc)

-- a stop that isn't whole ends a course
pub of_no_use : (stop : Stop) → (IsUseful stop → ⊥) → stop ≢ Whole
of_no_use stop spoilt is = spoilt (subst IsUseful (sym is) tt)

-- a stop after which the seat is of use
pub moves_until : (stop : Stop) (seat seat' : StreamSeatValue) (writer writer' : WriterState) (frames : List FrameText)
    → IsUseful stop → StopsWith stop seat seat' writer writer' frames → Moves seat seat' writer writer' frames
moves_until Whole seat seat' writer writer' frames p a = a
moves_until (Read fault) seat seat' writer writer' frames p a = a
moves_until (Refused cause) seat seat' writer writer' frames p a = a
moves_until (Write fault) seat seat' writer writer' frames p a = absurd p
moves_until Torn seat seat' writer writer' frames p a = absurd p

-- a stop of no use is one of the writer, or Torn
pub until_moves : (stop : Stop) (seat seat' : StreamSeatValue) (writer writer' : WriterState) (frames : List FrameText)
    → IsUseful stop → Moves seat seat' writer writer' frames → StopsWith stop seat seat' writer writer' frames
until_moves Whole seat seat' writer writer' frames p a = a
until_moves (Read fault) seat seat' writer writer' frames p a = a
until_moves (Refused cause) seat seat' writer writer' frames p a = a
until_moves (Write fault) seat seat' writer writer' frames p a = absurd p
until_moves Torn seat seat' writer writer' frames p a = absurd p

-- a seat that stopped its client as Torn noted it
pub stopped_torn : (stop : Stop) (seat seat' : StreamSeatValue) (writer writer' : WriterState) (frames : List FrameText) → stop ≡ Torn
    → StopsWith stop seat seat' writer writer' frames → IsSome seat'.torn
stopped_torn stop seat seat' writer writer' frames is a =
    let torn = subst (λ (s : Stop). StopsWith s seat seat' writer writer' frames) is a in torn.2

-- what is kept may be collected and written
module _ (past : List Act) (stop : Stop) (reader reader' : ReaderState) (seat mid closed : StreamSeatValue) (writer between : WriterState)
    (useful : IsUseful stop) (a : Feeds past stop reader reader' seat mid writer between) (close : MayClose mid closed) where
  drain_moved : Moves seat mid writer between a.frames
  drain_moved = moves_until stop seat mid writer between a.frames useful a.moved

  pub drain_size : IsWriterFor seat.chain writer → IsWriterFor closed.chain between
  drain_size size = subst (λ (s : StreamSeatValue). IsWriterFor s.chain between) (sym close)
      (size_later seat mid writer between a.frames drain_moved size)

  pub drain_few : Accounted seat writer → between.frames + length closed.kept ≤ MOST_FRAMES
  drain_few before = subst (λ (s : StreamSeatValue). between.frames + length s.kept ≤ MOST_FRAMES) (sym close)
      (few_of mid between (Accounted-later seat mid writer between a.frames drain_moved before))

  pub drain_writing : Accounted seat writer → between.failed ≡ false
  drain_writing before = (Accounted-later seat mid writer between a.frames drain_moved before).writing

  pub drain_none : Accounted seat writer → between.part ≡ 0
  drain_none before = (Accounted-later seat mid writer between a.frames drain_moved before).none

-- all was read, and then the collection stopped
module _ (past : List Act) (reader reader' : ReaderState) (seat mid : StreamSeatValue) (frames : List FrameText)
    (a : StopsReading past Whole reader reader' seat mid frames) where
  pub read_until : (last : Stop) → IsOfCollection (Stopped last) → StopsReading past last reader reader' seat mid frames
  read_until Whole own = a
  read_until (Read fault) own = absurd own
  read_until (Refused cause) own = absurd own
  read_until (Write fault) own =
      record { rest = a.rest; each = a.each; taken = a.taken; stops = inl (inr a.stops); reads = inl a.reads }
  read_until Torn own =
      record { rest = a.rest; each = a.each; taken = a.taken; stops = inl (inr a.stops); reads = inl a.reads }

-- more calls follow

other_later : (calls added : List Act) → HasOtherNumber calls → HasOtherNumber (calls ++ added)
other_later calls added a = record {
  before = a.before;
  tick = a.tick;
  number = a.number;
  later = a.later ++ added;
  other = a.other;
  whole = ap (λ l. l ++ added) a.whole ∙ append_assoc a.before (acts.Offered a.tick a.number ∷ a.later) added;
}

fault_later : (at : ClientProgress) (added : List Act) → HasMoreOrEnds at ⊎ HasLaterFault at
    → HasMoreOrEnds at ⊎ HasLaterFault (record at { calls = at.calls ++ added })
fault_later at added (inl a) = inl a
fault_later at added (inr (inl a)) = inr (inl a)
fault_later at added (inr (inr a)) = inr (inr (other_later at.calls added a.0, a.1))

stops_later : (stop : Stop) (at : ClientProgress) (added : List Act) → ClientStopsAt stop at
    → ClientStopsAt stop (record at { calls = at.calls ++ added })
stops_later Whole at added a = a
stops_later (Read fault) at added a = a
stops_later (Refused TooManyFrames) at added a = a
stops_later (Refused ClockEnd) at added a = a
stops_later (Refused NoMemory) at added a = a
stops_later (Write fault) at added a = fault_later at added a
stops_later Torn at added a = fault_later at added a

-- the same stop, by the calls of all epochs
pub read_by : (past past' : List Act) (stop : Stop) (reader reader' : ReaderState) (seat mid seat' : StreamSeatValue)
    (frames : List FrameText)
    → past' ++ seat'.calls.list ≡ past ++ mid.calls.list → StopsReading past stop reader reader' seat mid frames
    → StopsReading past' stop reader reader' seat seat' frames
read_by past past' stop reader reader' seat mid seat' frames same a = record {
  rest = a.rest;
  each = a.each;
  taken = a.taken;
  stops = subst (λ (calls : List Act). ClientStopsAt stop (record {
    len = data_len_of reader.header;
    count = seat.accepted + length frames;
    most = seat.frames;
    rest = a.rest;
    left = reader'.left;
    calls = calls;
  })) (sym same) a.stops;
  reads = a.reads;
}

read_later : (past : List Act) (stop : Stop) (reader reader' : ReaderState) (seat mid seat' : StreamSeatValue) (frames : List FrameText)
    (added : List Act) → seat'.calls.list ≡ mid.calls.list ++ added → StopsReading past stop reader reader' seat mid frames
    → StopsReading past stop reader reader' seat seat' frames
read_later past stop reader reader' seat mid seat' frames added calls a = record {
  rest = a.rest;
  each = a.each;
  taken = a.taken;
  stops = rw (calls, ← (append_assoc past mid.calls.list added)) (stops_later stop _ added a.stops);
  reads = a.reads;
}

-- a client that doesn't write any more

pub Serves-later : (past : List Act) (stop : Stop) (reader reader' : ReaderState) (seat mid seat' : StreamSeatValue)
    (writer writer' : WriterState)
    → stop ≢ Whole → IsSpoilt writer' mid → TalliesSeat mid seat' → seat'.accepted ≡ mid.accepted
    → Serves past stop reader reader' seat mid writer writer' → Serves past stop reader reader' seat seat' writer writer'
Serves-later past stop reader reader' seat mid seat' writer writer' fault spoilt tally same a = record {
  frames = a.frames;
  read = read_later past stop reader reader' seat mid seat' a.frames tally.added tally.calls a.read;
  count = same ∙ a.count;
  sent = a.sent;
  torn = λ is. torn_still mid seat' tally (a.torn is);
  kept = inl (spoilt_later mid seat' writer' tally spoilt);
  whole = λ is. absurd (fault is);
}

-- the stream is closed, and images are written on
pub Feeds-closed : (past : List Act) (stop : Stop) (reader reader' : ReaderState) (seat mid closed : StreamSeatValue)
    (writer between : WriterState)
    → seat.is_closed ≡ false → IsUseful stop → MayClose mid closed → closed.torn ≡ mid.torn → TalliesSeat mid closed
    → Feeds past stop reader reader' seat mid writer between
    → Feeds past stop reader reader' seat (as_open closed) writer between
Feeds-closed past stop reader reader' seat mid closed writer between is_open useful close untorn tally a = record {
  frames = a.frames;
  read = read_later past stop reader reader' seat mid (as_open closed) a.frames tally.added tally.calls a.read;
  moved = until_moves stop seat (as_open closed) writer between a.frames useful
      (Moves-closed seat mid closed writer between a.frames is_open close untorn
      (moves_until stop seat mid writer between a.frames useful a.moved));
  count = ap (λ (s : StreamSeatValue). s.accepted) close ∙ a.count;
}

pub Feeds-drained : (past : List Act) (stop : Stop) (reader reader' : ReaderState) (seat closed drained : StreamSeatValue)
    (writer between writer' : WriterState)
    → IsUseful stop → Feeds past stop reader reader' seat (as_open closed) writer between → Moves closed drained between writer' []
    → TalliesSeat closed drained
    → Feeds past stop reader reader' seat (as_open drained) writer writer'
Feeds-drained past stop reader reader' seat closed drained writer between writer' useful a b tally =
    let moved : Moves seat (as_open drained) writer writer' (a.frames ++ []) =
    Moves-trans seat (as_open closed) (as_open drained) writer between writer' a.frames []
    (moves_until stop seat (as_open closed) writer between a.frames useful a.moved) (Moves-open closed drained between writer' [] b) in
    let all : Moves seat (as_open drained) writer writer' a.frames =
    subst (λ (fs : List FrameText). Moves seat (as_open drained) writer writer' fs) (append-nil a.frames) moved in
    record {
      frames = a.frames;
      read = read_later past stop reader reader' seat (as_open closed) (as_open drained) a.frames tally.added tally.calls a.read;
      moved = until_moves stop seat (as_open drained) writer writer' a.frames useful all;
      count = all.count;
    }

-- the journal is full, and an image may be in hand
pub Feeds-paused : (past : List Act) (stop : Stop) (reader reader' : ReaderState) (seat closed drained : StreamSeatValue)
    (writer between writer' : WriterState) (image : Option Collected)
    → IsUseful stop → Feeds past stop reader reader' seat (as_open closed) writer between
    → Behind image drained writer' (λ s w. Moves closed s between w []) → TalliesSeat closed drained
    → Behind image drained writer' (λ s w. Feeds past stop reader reader' seat (as_open s) writer w)
Feeds-paused past stop reader reader' seat closed drained writer between writer' image useful a b tally =
    Behind-map image drained writer' (λ s w. Moves closed s between w [])
    (λ s w. Feeds past stop reader reader' seat (as_open s) writer w)
    (λ s w stood moved. Feeds-drained past stop reader reader' seat closed s writer between w useful a moved
    (TalliesSeat-trans closed drained s tally (stood_tally drained s writer' w stood))) b

-- what a client serves

module _ (past : List Act) (reader reader' : ReaderState) (seat : StreamSeatValue) (writer : WriterState)
    (none : seat.kept ≡ []) (well : writer.failed ≡ false) where
  -- nothing is written after the stop
  pub Serves-spoilt : (stop : Stop) (mid seat' : StreamSeatValue) (writer' : WriterState) → (IsUseful stop → ⊥)
      → Feeds past stop reader reader' seat mid writer writer' → seat'.accepted ≡ mid.accepted → TalliesSeat mid seat'
      → Serves past stop reader reader' seat seat' writer writer'
  Serves-spoilt stop mid seat' writer' spoilt a same tally = record {
    frames = a.frames;
    read = read_later past stop reader reader' seat mid seat' a.frames tally.added tally.calls a.read;
    count = same ∙ a.count;
    sent = sent_until seat writer a.frames none well stop stop mid writer' (λ f is. is) a.moved;
    torn = λ is. torn_still mid seat' tally (stopped_torn stop seat mid writer writer' a.frames is a.moved);
    kept = inl (spoilt_later mid seat' writer' tally (stopped_spoilt stop seat mid writer writer' a.frames spoilt a.moved));
    whole = λ is. absurd (spoilt (subst IsUseful (sym is) tt));
  }

  -- what is kept is collected and written after the stop
  pub Serves-drained : (stop last told : Stop) (closed drained : StreamSeatValue) (between writer' : WriterState)
      → IsUseful stop → Feeds past stop reader reader' seat (as_open closed) writer between
      → StopsWith last closed drained between writer' [] → IsOfCollection (Stopped last) → (last ≡ Whole → IsDrained drained)
      → drained.accepted ≡ closed.accepted → TalliesSeat closed drained → IsFirst stop last told
      → Serves past told reader reader' seat drained writer writer'
  Serves-drained stop last told closed drained between writer' useful a b own left same tally first =
      let moved = moves_until stop seat (as_open closed) writer between a.frames useful a.moved in
      let both : StopsWith last seat (as_open drained) writer writer' (a.frames ++ []) =
      StopsWith-later last seat (as_open closed) (as_open drained) writer between writer' a.frames [] moved
      (StopsWith-open last closed drained between writer' [] b) in
      let all : StopsWith last seat (as_open drained) writer writer' a.frames =
      subst (λ (fs : List FrameText). StopsWith last seat (as_open drained) writer writer' fs) (append-nil a.frames) both in
      let kept : IsSpoilt writer' drained ⊎ (writer'.frames + length drained.kept ≡ writer.frames + length a.frames) =
      stopped_kept last seat (as_open drained) writer writer' a.frames none all in
      elim (first_told stop last told useful first) [
        | inl e ↦ record {
          frames = a.frames;
          read = subst (λ (s : Stop). StopsReading past s reader reader' seat drained a.frames) (sym e.1)
              (read_later past last reader reader' seat (as_open closed) drained a.frames tally.added tally.calls
              (read_until past reader reader' seat (as_open closed) a.frames
              (subst (λ (s : Stop). StopsReading past s reader reader' seat (as_open closed) a.frames) e.0 a.read) last own));
          count = same ∙ a.count;
          sent = sent_until seat writer a.frames none well told last (as_open drained) writer' (λ f is. sym e.1 ∙ is) all;
          torn = λ is. stopped_torn last closed drained between writer' [] (sym e.1 ∙ is) b;
          kept = kept;
          whole = λ is.
              let stopped : last ≡ Whole = sym e.1 ∙ is in
              let sent = all_sent seat writer a.frames none well (as_open drained) writer' (left stopped).none
              (subst (λ (s : Stop). StopsWith s seat (as_open drained) writer writer' a.frames) stopped all) in
              (sent.0, sent.1, left stopped);
        }
        | inr e ↦ record {
          frames = a.frames;
          read = subst (λ (s : Stop). StopsReading past s reader reader' seat drained a.frames) (sym e.2)
              (read_later past stop reader reader' seat (as_open closed) drained a.frames tally.added tally.calls a.read);
          count = same ∙ a.count;
          sent = sent_until seat writer a.frames none well told last (as_open drained) writer'
              (λ f is. absurd (subst IsNoWrite (sym e.2 ∙ is) e.0)) all;
          torn = λ is. absurd (subst IsUseful (sym e.2 ∙ is) useful);
          kept = kept;
          whole = λ is. absurd (e.1 (sym e.2 ∙ is));
        }
      ]

  -- the close behind the stop is told Torn
  pub Serves-torn : (stop told : Stop) (mid closed : StreamSeatValue) (writer' : WriterState) → seat.is_closed ≡ false → IsUseful stop
      → Feeds past stop reader reader' seat mid writer writer' → closed.accepted ≡ mid.accepted → TalliesSeat mid closed
      → IsSome closed.torn → IsFirst stop Torn told → Serves past told reader reader' seat closed writer writer'
  Serves-torn stop told mid closed writer' is_open useful a same tally torn first =
      Serves-drained stop Torn told mid closed writer' writer' useful
      (Feeds-closed past stop reader reader' seat mid mid writer writer' is_open useful refl refl (seat_same mid mid refl) a)
      (mid, Moves-none mid mid writer' writer' refl refl, torn) tt (λ is. absurd (cc)) same tally first
