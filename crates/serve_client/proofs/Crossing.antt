-- How a stream goes on from one epoch to the next.
use Rattle.std.proofs.Common.{◌≡◌, ◌⊎◌, ◌+◌, ◌++◌, ◌≤◌, ℕ, List, [], Option, None, Some, IfSome, IsSome, ap, append-nil, arith}
use Rattle.std.proofs.Common.{inl, inr, length, refl, subst, sym, ◌∙◌}
use Rattle.filters.specs.Chain.{ChainValue}
use Rattle.filters.specs.ChainImage.{FrameValue}
use Rattle.y4m_header.specs.StreamText.{FrameText}
use Rattle.y4m_stream.specs.Failures.{one_more}
use Rattle.y4m_stream.specs.Reader.{ReaderState, data_len_of}
use Rattle.y4m_stream.specs.Writer.{WriterState}
use Rattle.serve_core.specs.declared.collected.Collected.{Collected}
use Rattle.serve_hub.specs.declared.entry.Act.{Act}
use Rattle.serve_hub.specs.Seats.{StreamSeatValue}
use Rattle.serve_client.specs.declared.stop.Stop.{Stop}
use Rattle.serve_client.specs.Clients.{ClientEnds, ClientIsDone, ClientOutcome, ClientStart, ClientStopsAt, CutsHeader}
use Rattle.serve_client.specs.Clients.{IsClosedUnlessTorn, WroteNothing, closes_in, collections_in, offers_in}
use Rattle.serve_client.specs.ClientInside.{Feeds, HasInHand, IsCounted, IsUseful, Moves, Passes, ShowsClose, Stays, texts_of}
use Rattle.serve_client.specs.Sends.{IsSpoilt, Serves}
use Rattle.serve_client.specs.Hands.{IsBegunPair, counted_with, with_kept}
use Rattle.serve_client.specs.Epochs.{IsReopened, NewStreamIsUnbegun, StreamsCross}
use Rattle.serve_client.specs.Rests.{Begun, CourseValue, Discarding, Draining, Feeding, Holding, IsAt, IsFresh}
use Rattle.serve_client.specs.Rests.{IsRestOf, Outset, RestValue, Unbegun, as_open, course_image}
use Rattle.serve_client.proofs.Hands.{IsReopened-kept}
use Rattle.serve_client.proofs.Staying.{Stays-same, Stays-trans, same_chain, same_frames}
use Rattle.serve_client.proofs.Tallying.{collections_both, collections_counted}
use Rattle.serve_client.proofs.Keeping.{spoilt_stays}
use Rattle.serve_client.proofs.Stopping.{moves_until, read_by, until_moves}

reopened_stays : (old new : StreamSeatValue) → IsReopened old new → Stays old new
reopened_stays old new r = record { number = r.number; spec = r.spec; is_closed = r.is_closed; torn = r.torn }

-- what a stream's seat moved, its seat of the next epoch has moved
Moves-to : (first old new : StreamSeatValue) (writer writer' : WriterState) (frames : List FrameText) → Stays first new
    → new.accepted ≡ old.accepted
    → new.kept ≡ old.kept → new.frames ≡ old.frames → Moves first old writer writer' frames → Moves first new writer writer' frames
Moves-to first old new writer writer' frames stays accepted kept most a = record {
  sent = a.sent;
  images = a.images;
  order = a.order ∙ ap (λ (k : List FrameValue). a.sent ++ texts_of k) (sym kept);
  made = a.made;
  wrote = a.wrote;
  bytes = a.bytes;
  frames = a.frames;
  count = accepted ∙ a.count;
  within = λ few. omega (arith, a.within few, accepted, most);
  seat_stays = stays;
  writer_stays = a.writer_stays;
}

module _ (past : List Act) (old new : StreamSeatValue) (r : IsReopened old new) where
  abbrev later : List Act
  later = past ++ old.calls.list

  same_calls : later ++ new.calls.list ≡ past ++ old.calls.list
  same_calls = ap (λ (calls : List Act). later ++ calls) r.calls ∙ append-nil later

  counted_across : IsCounted past old → IsCounted later new
  counted_across e = ap offers_in same_calls ∙ e ∙ sym r.accepted

  close_across : ShowsClose past old → ShowsClose later new
  close_across shown is_open = ap closes_in same_calls ∙ shown (sym r.is_closed ∙ is_open)

  before_across : (first : ℕ) → old.before ≡ first + collections_in past → new.before ≡ first + collections_in later
  before_across first e = omega (arith, e, r.before, collections_counted old.calls.list, collections_both past old.calls.list)

  torn_across : (P : ℕ → Type 0) → IfSome old.torn P → IfSome new.torn P
  torn_across P p = subst (λ (o : Option ℕ). IfSome o P) (sym r.torn) p

  Passes-across : (reader before : ReaderState) (first : StreamSeatValue) (writer writer' : WriterState) (frames : List FrameText)
      → Passes reader before first old writer writer' frames → Passes reader before first new writer writer' frames
  Passes-across reader before first writer writer' frames a = record {
    each = a.each;
    taken = a.taken;
    moved = Moves-to first old new writer writer' frames (Stays-trans first old new a.moved.seat_stays (reopened_stays old new r))
        r.accepted r.kept (same_frames old new r.spec)
        a.moved;
    header = a.header;
    no_failure = a.no_failure;
  }

  Feeds-across : (stop : Stop) (reader reader' : ReaderState) (first : StreamSeatValue) (writer writer' : WriterState) → IsUseful stop
      → Feeds past stop reader reader' first (as_open old) writer writer'
      → Feeds later stop reader reader' first (as_open new) writer writer'
  Feeds-across stop reader reader' first writer writer' useful a =
      let moved = moves_until stop first (as_open old) writer writer' a.frames useful a.moved in
      record {
        frames = a.frames;
        read = read_by past later stop reader reader' first (as_open old) (as_open new) a.frames same_calls a.read;
        moved = until_moves stop first (as_open new) writer writer' a.frames useful
            (Moves-to first (as_open old) (as_open new) writer writer' a.frames
            (Stays-trans first (as_open old) (as_open new) moved.seat_stays
            (record { number = r.number; spec = r.spec; is_closed = refl; torn = r.torn }))
            r.accepted r.kept (same_frames old new r.spec) moved);
        count = r.accepted ∙ a.count;
      }

  HasInHand-across : (reader reader' : ReaderState) (first : StreamSeatValue) (writer writer' : WriterState)
      (in_hand : Option FrameText) → HasInHand reader reader' first old writer writer' in_hand
      → HasInHand reader reader' first new writer writer' in_hand
  HasInHand-across reader reader' first writer writer' in_hand a = record {
    before = a.before;
    frames = a.frames;
    passed = Passes-across reader a.before first writer writer' a.frames a.passed;
    holds = a.holds;
    is_open = a.is_open;
  }

-- what a stream's seat came to, its seat of the next epoch has come to
module _ (past : List Act) (old new : StreamSeatValue) (r : IsReopened old new) where
  abbrev more : List Act
  more = past ++ old.calls.list

  all_same : more ++ new.calls.list ≡ past ++ old.calls.list
  all_same = same_calls past old new r

  begun_across : (pair : Collected) (before writer : WriterState) → IsBegunPair old.chain pair before writer
      → IsBegunPair new.chain pair before writer
  begun_across pair before writer begun =
      subst (λ (chain : ChainValue). IsBegunPair chain pair before writer) (sym (same_chain old new r.spec)) begun

  spoilt_across : (writer : WriterState) → IsSpoilt writer old → IsSpoilt writer new
  spoilt_across writer spoilt = spoilt_stays old new writer r.torn spoilt

  closed_across : IsClosedUnlessTorn old → IsClosedUnlessTorn new
  closed_across (inl torn) = inl (subst IsSome (sym r.torn) torn)
  closed_across (inr closed) = inr (r.is_closed ∙ closed)

  kept_across : (writer : WriterState) (n : ℕ) → IsSpoilt writer old ⊎ (writer.frames + length old.kept ≡ n)
      → IsSpoilt writer new ⊎ (writer.frames + length new.kept ≡ n)
  kept_across writer n (inl spoilt) = inl (spoilt_across writer spoilt)
  kept_across writer n (inr all) = inr (omega (arith, all, ap length r.kept))

  Serves-across : (stop : Stop) (reader reader' : ReaderState) (first : StreamSeatValue) (writer writer' : WriterState)
      → Serves past stop reader reader' first old writer writer' → Serves more stop reader reader' first new writer writer'
  Serves-across stop reader reader' first writer writer' a = record {
    frames = a.frames;
    read = read_by past more stop reader reader' first old new a.frames all_same a.read;
    count = r.accepted ∙ a.count;
    sent = a.sent;
    torn = λ is. subst IsSome (sym r.torn) (a.torn is);
    kept = kept_across writer' (writer.frames + length a.frames) a.kept;
    whole = λ is.
        let all = a.whole is in
        (all.0, all.1, record { closed = rw r.is_closed all.2.closed; none = r.kept ∙ all.2.none });
  }

  IsAt-across : (course : CourseValue) (o : Outset) (reader : ReaderState) (writer : WriterState) → IsAt course past o reader old writer
      → IsAt course more o reader new writer
  IsAt-across (Feeding in_hand None) o reader writer a = HasInHand-across past old new r o.reader reader o.seat o.writer writer in_hand a
  IsAt-across (Feeding in_hand (Some pair)) o reader writer a = (
    a.0,
    begun_across pair a.0 writer a.1,
    HasInHand-across past (with_kept pair old) (with_kept pair new) (IsReopened-kept pair old new r) o.reader reader o.seat o.writer a.0
        in_hand a.2,
  )
  IsAt-across (Holding in_hand held) o reader writer a = record {
    before = a.before;
    frames = a.frames;
    read = a.read;
    count = r.accepted ∙ a.count;
    most = same_frames old new r.spec ∙ a.most;
    is_closed = r.is_closed ∙ a.is_closed;
    torn = λ is. subst IsSome (sym r.torn) (a.torn is);
    sent = a.sent;
    spoilt = a.spoilt;
    holds = a.holds;
    is_open = a.is_open;
  }
  IsAt-across (Draining stop None) o reader writer a =
      (a.0, Feeds-across past old new r stop o.reader reader o.seat o.writer writer a.0 a.1, closed_across a.2)
  IsAt-across (Draining stop (Some pair)) o reader writer a =
      let later = Feeds-across past (with_kept pair old) (with_kept pair new) (IsReopened-kept pair old new r) stop o.reader reader o.seat
      o.writer a.1.0 a.0 a.1.2 in
      (a.0, (a.1.0, begun_across pair a.1.0 writer a.1.1, later), closed_across a.2)
  IsAt-across (Discarding stop) o reader writer a = (
    (a.0.0, spoilt_across writer a.0.1, Serves-across stop o.reader reader o.seat o.writer writer a.0.2),
    closed_across a.1,
  )

  rest_across : (start : ClientStart) (rest : RestValue) → IsRestOf start past old rest → IsRestOf start more new rest
  rest_across start (Unbegun reader contents failures) a = record {
    same_reader = a.same_reader;
    same_contents = a.same_contents;
    same_failures = a.same_failures;
    is_open = a.is_open;
    first = a.first;
    fresh = record { accepted = r.accepted ∙ a.fresh.accepted; kept = r.kept ∙ a.fresh.kept; is_open = r.is_closed ∙ a.fresh.is_open };
    stays = Stays-trans start.seat old new a.stays (reopened_stays old new r);
    offers = counted_across past old new r a.offers;
    closes = close_across past old new r a.closes;
    before = before_across past old new r start.seat.before a.before;
  }
  rest_across start (Begun begun) a = record {
    shown = a.shown;
    opened = a.opened;
    header = a.header;
    is_opened = a.is_opened;
    first = a.first;
    at = IsAt-across begun.course (record { reader = start.reader; seat = start.seat; writer = a.opened }) begun.reader begun.writer a.at;
    same_header = a.same_header;
    tally = record {
      number = r.number ∙ a.tally.number;
      spec = r.spec ∙ a.tally.spec;
      offers = counted_across past old new r a.tally.offers;
      closes = close_across past old new r a.tally.closes;
      images = omega (arith, a.tally.images, ap collections_in all_same);
      before = before_across past old new r start.seat.before a.tally.before;
      torn = λ none. torn_across past old new r
          (λ n. start.seat.before + (counted_with (course_image begun.course) begun.writer).frames ≤ n) (a.tally.torn none);
    };
    accepted = a.accepted ∙ sym r.accepted;
    collected = rw (r.accepted, r.kept) a.collected;
  }

  stops_across : (start : ClientStart) (end : ClientOutcome) (rest : Option (List ℕ))
      → WroteNothing start end ⊎ CutsHeader start end ⊎ ClientStopsAt end.stop (record {
        len = data_len_of start.reader.header;
        count = end.accepted;
        most = start.seat.frames;
        rest = rest;
        left = end.left;
        calls = past ++ old.calls.list;
      })
      → WroteNothing start end ⊎ CutsHeader start end ⊎ ClientStopsAt end.stop (record {
        len = data_len_of start.reader.header;
        count = end.accepted;
        most = start.seat.frames;
        rest = rest;
        left = end.left;
        calls = more ++ new.calls.list;
      })
  stops_across start end rest (inl a) = inl a
  stops_across start end rest (inr (inl a)) = inr (inl a)
  stops_across start end rest (inr (inr a)) = inr (inr (subst (λ (calls : List Act). ClientStopsAt end.stop (record {
    len = data_len_of start.reader.header;
    count = end.accepted;
    most = start.seat.frames;
    rest = rest;
    left = end.left;
    calls = calls;
  })) (sym all_same) a))

  left_across : (start : ClientStart) (end : ClientOutcome)
      → (end.failures ≡ one_more start.failures) ⊎ IsSome old.torn ⊎ (end.delivered + length old.kept ≡ end.accepted)
      → (end.failures ≡ one_more start.failures) ⊎ IsSome new.torn ⊎ (end.delivered + length new.kept ≡ end.accepted)
  left_across start end (inl failed) = inl failed
  left_across start end (inr (inl torn)) = inr (inl (subst IsSome (sym r.torn) torn))
  left_across start end (inr (inr all)) = inr (inr (omega (arith, all, ap length r.kept)))

  end_across : (start : ClientStart) (end : ClientOutcome) → ClientEnds start past old end → ClientEnds start more new end
  end_across start end a = record {
    frames = a.frames;
    rest = a.rest;
    each = a.each;
    taken = a.taken;
    count = a.count;
    stops = stops_across start end a.rest a.stops;
    reads = a.reads;
    out = a.out;
    whole = a.whole;
    kept = left_across start end a.kept;
    drained = λ is.
        let all = a.drained is in
        record { closed = rw r.is_closed all.closed; none = r.kept ∙ all.none };
    number = r.number ∙ a.number;
    spec = r.spec ∙ a.spec;
    accepted = r.accepted ∙ a.accepted;
    offers = ap offers_in all_same ∙ a.offers;
    collections = omega (arith, a.collections, ap collections_in all_same);
    before = before_across past old new r start.seat.before a.before;
    torn = λ none. torn_across past old new r (λ n. start.seat.before + end.delivered ≤ n) (a.torn none);
    told = λ is. subst IsSome (sym r.torn) (a.told is);
  }

  done_across : (start : ClientStart) (end : ClientOutcome) → ClientIsDone start past old end → ClientIsDone start more new end
  done_across start end a = (end_across start end a.0, r.kept ∙ a.1, closed_across a.2)

pub streams_cross : StreamsCross
streams_cross start past old new r = (λ rest a. rest_across past old new r start rest a, λ end a. done_across past old new r start end a)

pub new_stream_is_unbegun : NewStreamIsUnbegun
new_stream_is_unbegun start fresh is_open =
    let first : IsFresh start.seat = record { accepted = fresh.accepted; kept = fresh.kept; is_open = fresh.is_open } in
    record {
      same_reader = refl;
      same_contents = refl;
      same_failures = refl;
      is_open = is_open;
      first = first;
      fresh = first;
      stays = Stays-same start.seat;
      offers = ap (λ (calls : List Act). offers_in ([] ++ calls)) fresh.calls ∙ sym fresh.accepted;
      closes = λ _. ap (λ (calls : List Act). closes_in ([] ++ calls)) fresh.calls;
      before = omega arith;
    }
