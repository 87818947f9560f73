-- What the streams of a session are charged.
use Rattle.std.specs.Prelude.{All, Bool, IsSomeAnd, drop, slice_get, slice_set, ⊤}
use Rattle.std.specs.List.{AllByRecursion, AllZip, Contains}
use Rattle.std.specs.Option.{option_map}
use Rattle.std.proofs.Common.{◌≡◌, ℕ, suc, zero, ◌+◌, ◌*◌, ◌≤◌, ◌<◌, List, [], ◌∷◌, length, get_or, map}
use Rattle.std.proofs.Common.{Option, Some, None, inl, inr, refl, sym, ap, ◌∙◌, subst, arith}
use Rattle.std.proofs.lemmas.Nat.{mul-le}
use Rattle.std.proofs.lemmas.Option.{slice_get_cases}
use Rattle.filters.specs.Costs.{cost_of}
use Rattle.y4m_stream.specs.Reader.{ReaderState}
use Rattle.serve_core.specs.declared.counts.Counts.{Counts}
use Rattle.serve_core.specs.Schedule.{HasStream, ScheduleValue, counts_of}
use Rattle.serve_core.specs.Setup.{StreamSpec}
use Rattle.serve_core.specs.Streams.{KeptStream}
use Rattle.serve_hub.specs.declared.entry.Act.{Act}
use Rattle.serve_hub.specs.declared.entry.Entry.{Entry}
use Rattle.serve_hub.specs.Ends.{AreStreamsOf, IsCharged, IsStreamOf}
use Rattle.serve_hub.specs.Seats.{StreamRest, StreamSeatValue, collected_by, left_by, opened_streams}
use Rattle.serve_client.specs.declared.stop.Stop.TheVariants.{Whole}
use Rattle.serve_client.specs.Clients.{ClientIsDone, ClientOutcome, ClientStart, StreamEnds}
use Rattle.serve_client.specs.Streams.{ServedValue}
use Rattle.serve_client.specs.Clients.{ClientLeft}
use Rattle.serve_client.proofs.Tallying.{collections_both, collections_counted}
use Rattle.serve_work.specs.History.{EpochValue, journal_of}
use Rattle.serve_work.specs.Intervals.{AreFrom}
use Rattle.serve_work.specs.Sessions.{AreServed, IsServed, IsStreamTold, IsServedBy, starts_of}
use Rattle.serve_work.specs.SessionInside.{AllLeave, outcomes_of}
use Rattle.serve_work.proofs.Rests.{all_left_by}

-- the streams are numbered in order
pub are_from : {W : Type 0} (contents : W → Option (List ℕ)) (failures : W → ℕ) (limit first : ℕ)
    (specs : List StreamSpec) (inputs : List (ReaderState × W))
    → AreFrom first (starts_of contents failures (opened_streams limit first specs) inputs)
are_from contents failures limit first [] inputs = tt
are_from contents failures limit first (spec ∷ specs) [] = tt
are_from contents failures limit first (spec ∷ specs) (input ∷ inputs) =
    (refl, are_from contents failures limit (suc first) specs inputs)

-- how much a stream was charged

-- no more images were delivered than were collected, in all epochs
few_delivered : (start : ClientStart) (past : List Act) (seat : StreamSeatValue) (end : ClientOutcome) → StreamEnds start past seat end
    → end.delivered ≤ collected_by seat
few_delivered start past seat end ends =
    omega (arith, ends.collections, ends.before, collections_both past seat.calls.list, collections_counted seat.calls.list)

-- what a stream was charged, by the images that were delivered and the frames that were accepted
record Charges (start : ClientStart) (end : ClientOutcome) (charged : ℕ) : Type 0 where
  least : end.delivered * cost_of start.seat.chain ≤ charged
  most : charged ≤ end.accepted * cost_of start.seat.chain
  whole : end.stop ≡ Whole → charged ≡ end.accepted * cost_of start.seat.chain

cost_between : (start : ClientStart) (past : List Act) (seat : StreamSeatValue) (end : ClientOutcome) (charged : ℕ) (stream : KeptStream)
    → StreamEnds start past seat end → IsStreamOf seat stream → charged ≡ stream.state.charged → IsCharged stream
    → Charges start end charged
cost_between start past seat end charged stream ends of same bounds =
    let cost : ℕ = cost_of start.seat.chain in
    let own : cost_of stream.state.spec.chain ≡ cost = ap (λ (spec : StreamSpec). cost_of spec.chain) (of.spec ∙ ends.spec) in
    let least : end.delivered * cost ≤ charged =
    omega (
      arith,
      mul-le end.delivered cost stream.state.collected cost
          (omega (arith, few_delivered start past seat end ends, of.collected)) (omega arith),
      ap (λ n. stream.state.collected * n) own,
      bounds.least,
      same,
    ) in
    let most : charged ≤ end.accepted * cost =
    omega (
      arith,
      bounds.most,
      same,
      ap (λ n. stream.state.accepted * n) own,
      ap (λ n. n * cost) (of.accepted ∙ ends.accepted),
    ) in
    record { least = least; most = most; whole = λ is. omega (arith, least, most, ap (λ n. n * cost) (ends.whole is).all) }

is_there : (o : Option KeptStream) (P : KeptStream → Type 0) → IsSomeAnd o P → IsSomeAnd o (λ _. ⊤)
is_there None P p = absurd p
is_there (Some stream) P p = tt

-- a stream of the desk, of which these are true
pub record StreamAt (desk : ScheduleValue) (n : ℕ) (P Q : KeptStream → Type 0) : Type 0 where
  pub stream : KeptStream
  pub here : slice_get desk.streams n ≡ Some stream
  pub first : P stream
  pub second : Q stream
  pub among : All IsCharged desk.streams → IsCharged stream

pub stream_at : (desk : ScheduleValue) (n : ℕ) (P Q : KeptStream → Type 0) → HasStream desk n P → HasStream desk n Q → StreamAt desk n P Q
stream_at desk n P Q p q = elim (slice_get_cases desk.streams n).1 [
  | inl here ↦ record {
    stream = here.0;
    here = here.2;
    first = subst (λ o. IsSomeAnd o P) here.2 p;
    second = subst (λ o. IsSomeAnd o Q) here.2 q;
    among = λ all. subst IsCharged here.3 (all n here.0 here.1);
  }
  | inr past ↦ absurd (subst (λ o. IsSomeAnd o P) past.1 p)
]

module _ (waits : Bool) (epochs : List EpochValue) (latest : EpochValue) (all : All IsCharged latest.last.streams) where
  all_served_from : (first : ℕ) (starts : List ClientStart) (lefts : List ClientLeft) (served : List ServedValue)
      → AllLeave waits (journal_of epochs) starts lefts → AreFrom first starts
      → AreStreamsOf latest.last (map (λ left. left.seat) lefts)
      → AllByRecursion (λ left. Contains latest.rests (left_by left.seat)) lefts
      → outcomes_of served ≡ map (λ left. left.outcome) lefts
      → ((k n : ℕ) (d : ServedValue) → n ≡ first + k → k < length served
      → HasStream latest.last n (λ stream. (get_or served k d).charged ≡ stream.state.charged))
      → AllZip (IsServedBy waits epochs latest) starts served
  all_served_from first [] [] [] p from streams rests e charges = tt
  all_served_from first [] [] (s ∷ served) p from streams rests e charges = absurd (omega (arith, ap length e))
  all_served_from first [] (left ∷ lefts) served p from streams rests e charges = absurd p
  all_served_from first (start ∷ starts) [] served p from streams rests e charges = absurd p
  all_served_from first (start ∷ starts) (left ∷ lefts) [] p from streams rests e charges = absurd (omega (arith, ap length e))
  all_served_from first (start ∷ starts) (left ∷ lefts) (s ∷ served) p from streams rests e charges =
      let desk : ScheduleValue = latest.last in
      let outcome : s.outcome ≡ left.outcome = ap (λ os. get_or os 0 left.outcome) e in
      let ends : StreamEnds start p.0.0 left.seat s.outcome = subst (StreamEnds start p.0.0 left.seat) (sym outcome) p.0.1 in
      let here = subst (λ n. HasStream desk n (IsStreamOf left.seat)) (ends.number ∙ from.0) (streams 0 left.seat (omega arith)) in
      let at = stream_at desk first _ _ here (charges 0 first s (omega arith) (omega arith)) in
      let cost = cost_between start p.0.0 left.seat s.outcome s.charged at.stream ends at.first at.second (at.among all) in
      let is_told : IsStreamTold s at.stream =
      record { accepted = at.first.accepted ∙ ends.accepted; charged = sym at.second } in (
        record {
          is_served = record {
            past = p.0.0;
            seat = left.seat;
            ends = ends;
            least = cost.least;
            most = cost.most;
            whole = cost.whole;
          };
          own = λ none. subst (ClientIsDone start p.0.0 left.seat) (sym outcome) (p.0.3 none);
          calls = p.0.2;
          stream = subst (λ n. HasStream desk n (IsStreamTold s)) (sym from.0)
              (subst (λ o. IsSomeAnd o (IsStreamTold s)) (sym at.here) is_told);
          left = rests.0;
        },
        all_served_from (suc first) starts lefts served p.1 from.1
            (λ k d less. streams (suc k) d (omega (arith, less)))
            rests.1
            (ap (λ os. drop 1 os) e)
            (λ k n d same less. charges (suc k) n d (omega (arith, same)) (omega (arith, less))),
      )

  -- each stream was served, where the desk has of it what its client left, and what it is told to be charged
  pub all_served : (starts : List ClientStart) (lefts : List ClientLeft) (served : List ServedValue)
      → AllLeave waits (journal_of epochs) starts lefts → AreFrom 0 starts
      → AreStreamsOf latest.last (map (λ left. left.seat) lefts)
      → latest.rests ≡ map left_by (map (λ left. left.seat) lefts) → outcomes_of served ≡ map (λ left. left.outcome) lefts
      → ((k : ℕ) (d : ServedValue) → k < length served
      → HasStream latest.last k (λ stream. (get_or served k d).charged ≡ stream.state.charged))
      → AllZip (IsServedBy waits epochs latest) starts served
  all_served starts lefts served p from streams rests e charges =
      all_served_from 0 starts lefts served p from streams
      (subst (λ (these : List StreamRest). AllByRecursion (λ left. Contains these (left_by left.seat)) lefts) (sym rests)
      (all_left_by (λ (left : ClientLeft). left.seat) lefts)) e
      (λ k n d same less. subst (λ m. HasStream latest.last m (λ stream. (get_or served k d).charged ≡ stream.state.charged))
      (omega (arith, same)) (charges k d less))

-- one stream was served, and is told as the desk has it
pub record ServedOne (start : ClientStart) (past : List Act) (seat : StreamSeatValue) (served : ServedValue)
    (desk : ScheduleValue) : Type 0 where
  pub is_served : IsServed start served
  pub past_of : is_served.past ≡ past
  pub seat_of : is_served.seat ≡ seat
  pub stream : HasStream desk seat.number (IsStreamTold served)

pub served_one : (start : ClientStart) (past : List Act) (seat : StreamSeatValue) (served : ServedValue) (desk : ScheduleValue)
    → All IsCharged desk.streams → StreamEnds start past seat served.outcome → HasStream desk seat.number (IsStreamOf seat)
    → HasStream desk seat.number (λ stream. served.charged ≡ stream.state.charged) → ServedOne start past seat served desk
served_one start past seat served desk all ends of charged =
    let at = stream_at desk seat.number _ _ of charged in
    let cost = cost_between start past seat served.outcome served.charged at.stream ends at.first at.second (at.among all) in
    let is_told : IsStreamTold served at.stream =
    record { accepted = at.first.accepted ∙ ends.accepted; charged = sym at.second } in
    record {
      is_served = record {
        past = past;
        seat = seat;
        ends = ends;
        least = cost.least;
        most = cost.most;
        whole = cost.whole;
      };
      past_of = refl;
      seat_of = refl;
      stream = subst (λ o. IsSomeAnd o (IsStreamTold served)) (sym at.here) is_told;
    }

-- each stream that is told was served
pub are_served : (is_cut : Bool) (epochs : List EpochValue) (latest : EpochValue) (starts : List ClientStart) (served : List ServedValue)
    → AllZip (IsServedBy is_cut epochs latest) starts served → AreServed starts served
are_served is_cut epochs latest [] [] p = tt
are_served is_cut epochs latest [] (s ∷ served) p = absurd p
are_served is_cut epochs latest (start ∷ starts) [] p = absurd p
are_served is_cut epochs latest (start ∷ starts) (s ∷ served) p = (p.0.is_served, are_served is_cut epochs latest starts served p.1)

-- the desk has each stream
pub each_kept : (waits : Bool) (journal : List Entry) (desk : ScheduleValue) (first : ℕ) (starts : List ClientStart)
    (lefts : List ClientLeft) → AllLeave waits journal starts lefts → AreFrom first starts → AreStreamsOf desk (map (λ left. left.seat) lefts)
    → (k n : ℕ) → n ≡ first + k → k < length lefts → HasStream desk n (λ _. ⊤)
each_kept waits journal desk first starts [] p from streams k n same less = absurd (omega (arith, less))
each_kept waits journal desk first [] (left ∷ lefts) p from streams k n same less = absurd p
each_kept waits journal desk first (start ∷ starts) (left ∷ lefts) p from streams zero n same less =
    let here = subst (λ n. HasStream desk n (IsStreamOf left.seat)) (p.0.1.number ∙ from.0 ∙ (omega (arith, same)))
    (streams 0 left.seat (omega arith)) in
    is_there (slice_get desk.streams n) (IsStreamOf left.seat) here
each_kept waits journal desk first (start ∷ starts) (left ∷ lefts) p from streams (suc k) n same less =
    each_kept waits journal desk (suc first) starts lefts p.1 from.1 (λ j d more. streams (suc j) d (omega (arith, more)))
    k n (omega (arith, same)) (omega (arith, less))

-- what is told of the streams, one by one

-- a change that isn't seen
pub map_set : {A B : Type 0} (f : A → B) (xs : List A) (n : ℕ) (d x : A) → f x ≡ f (get_or xs n d)
    → map f (slice_set xs n x) ≡ map f xs
map_set f [] n d x e = refl
map_set f (y ∷ xs) zero d x e = ap (λ z. z ∷ map f xs) e
map_set f (y ∷ xs) (suc n) d x e = ap (λ zs. f y ∷ zs) (map_set f xs n d x e)

-- a stream's counts are told
pub charge_told : (o : Option KeptStream) (counts : Counts) → Some counts ≡ option_map (λ stream. counts_of stream.state) o
    → IsSomeAnd o (λ stream. counts.charged ≡ stream.state.charged)
charge_told None counts e = absurd (cc)
charge_told (Some stream) counts e = let same : counts ≡ counts_of stream.state = cc in ap (λ (c : Counts). c.charged) same

pub no_stream : (o : Option KeptStream) → None ≡ option_map (λ stream. counts_of stream.state) o → IsSomeAnd o (λ _. ⊤) → ⊥
no_stream None e p = absurd p
no_stream (Some stream) e p = absurd (cc)

-- one more is told
pub told_more : {S : Type 0} (Told : ℕ → S → Type 0) (served : List S) (n : ℕ) (x : S) → n < length served
    → ((k : ℕ) (d : S) → k < n → Told k (get_or served k d)) → Told n x
    → (k : ℕ) (d : S) → k < n + 1 → Told k (get_or (slice_set served n x) k d)
told_more Told [] n x there before now k d less = absurd (omega (arith, there))
told_more Told (s ∷ served) zero x there before now zero d less = now
told_more Told (s ∷ served) zero x there before now (suc k) d less = absurd (omega (arith, less))
told_more Told (s ∷ served) (suc n) x there before now zero d less = before 0 d (omega arith)
told_more Told (s ∷ served) (suc n) x there before now (suc k) d less =
    told_more (λ j. Told (suc j)) served n x (omega (arith, there)) (λ j e lt. before (suc j) e (omega (arith, lt))) now
    k d (omega (arith, less))
