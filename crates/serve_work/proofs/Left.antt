-- How an epoch is left, and whose stream each of its numbers was.
use Rattle.std.specs.Prelude.{All, IsSomeAnd, drop, replicate, slice_get, slice_set}
use Rattle.std.specs.List.{AllZip}
use Rattle.std.proofs.lemmas.List.{length-replicate}
use Rattle.std.proofs.Common.{◌≡◌, ℕ, zero, suc, ◌<◌, ◌≤◌, List, [], ◌∷◌, ◌++◌, length, get_or, length-set, map, Option, Some, None, inl}
use Rattle.std.proofs.Common.{inr, refl, sym, ap, ◌∙◌, subst, arith}
use Rattle.serve_core.specs.Schedule.{ScheduleValue}
use Rattle.serve_core.specs.Streams.{KeptStream}
use Rattle.serve_core.proofs.Items.Lists.{slice_get_set_other, slice_get_set_same}
use Rattle.serve_hub.specs.Ends.{AreStreamsOf, HaveStreams, IsStreamOf}
use Rattle.serve_hub.specs.Seats.{StreamSeatValue, left_by}
use Rattle.serve_client.specs.Streams.{StreamValue}
use Rattle.serve_work.specs.declared.live.guests.Guest.{Guest}
use Rattle.serve_work.specs.History.{EpochValue, HasEnded, IsGone, IsGoneOn, IsHistory, Terms}
use Rattle.serve_work.specs.Live.{Waiting}
use Rattle.serve_work.specs.LiveInside.{with_tickets, guests_of, nobody}
use Rattle.serve_work.specs.SessionInside.{HeldValue}
use Rattle.serve_work.proofs.Distinct.{AreDistinct, In, distinct_from}
use Rattle.serve_work.proofs.SessionTurns.{same_length}

-- an epoch that ended is one of the history when the clock went on
pub one_epoch_more : (terms : Terms) (times : ℕ → Type 0) (es : List EpochValue) (epoch : EpochValue)
    → HasEnded terms times es epoch → IsGoneOn times epoch.last epoch.gone → IsHistory terms times (epoch ∷ es)
one_epoch_more terms times es epoch h on = record {
  epochs_are = (h.is_epoch, h.opens, h.before.epochs_are);
  timed = (record { each = h.timed; goes_on = inl on }, h.before.timed);
}

pub gone_on : (times : ℕ → Type 0) (last gone : ScheduleValue) → IsGoneOn times last gone → IsGone last gone
gone_on times last gone (at, given, inl on) = inr (at, on.0, on.1)
gone_on times last gone (at, given, inr stays) = inl stays.1

-- where the clock goes on no stream changes
pub streams_gone : (last gone : ScheduleValue) → IsGone last gone → gone.streams ≡ last.streams
streams_gone last gone (inl e) = ap (λ (x : ScheduleValue). x.streams) e
streams_gone last gone (inr g) = ap (λ (x : ScheduleValue). x.streams) g.2

pub kept_gone : (last gone : ScheduleValue) → gone.streams ≡ last.streams → (seats : List StreamSeatValue)
    → AreStreamsOf last seats → AreStreamsOf gone seats
kept_gone last gone same seats kept =
    subst (λ (streams : List KeptStream). All (λ (s : StreamSeatValue). IsSomeAnd (slice_get streams s.number) (IsStreamOf s)) seats)
    (sym same) kept

-- the ticket of a number stays where others are put to theirs
module _ {R W : Type 0} where
  kept_ticket : (seats : List StreamSeatValue) (guests : List (Option (Guest R W))) (tickets : List (Option ℕ)) (n : ℕ)
      (ticket : Option (Option ℕ)) → (In n (map (λ seat. seat.number) seats) → ⊥) → slice_get tickets n ≡ ticket
      → slice_get (with_tickets (map left_by seats) guests tickets) n ≡ ticket
  kept_ticket [] guests tickets n ticket out e = e
  kept_ticket (seat ∷ seats) [] tickets n ticket out e = e
  kept_ticket (seat ∷ seats) (None ∷ guests) tickets n ticket out e =
      kept_ticket seats guests tickets n ticket (λ i. out (inr i)) e
  kept_ticket (seat ∷ seats) (Some guest ∷ guests) tickets n ticket out e =
      let mine : Option ℕ = Some guest.ticket in
      kept_ticket seats guests (slice_set tickets seat.number mine) n ticket (λ i. out (inr i))
      (slice_get_set_other tickets seat.number n mine (λ same. out (inl (sym same))) ∙ e)

-- where the numbers are all different, each stream's ticket is at its number
module _ (R W : Type 0) where
  all_mine : (ws : List Waiting) (streams : List StreamValue) (after : List HeldValue) (idle : List StreamSeatValue)
      (tickets : List (Option ℕ)) → AllZip (λ (w : Waiting) (held : HeldValue). Unit {0}) ws after
      → streams ≡ map (λ held. held.stream) after
      → AreDistinct (map (λ seat. seat.number) (map (λ held. held.seat) after ++ idle))
      → ((n : ℕ) → In n (map (λ seat. seat.number) (map (λ held. held.seat) after ++ idle)) → n < length tickets)
      → AllZip (λ w held. slice_get (with_tickets (map left_by (map (λ held. held.seat) after ++ idle))
      (guests_of {R = R} {W = W} (map (λ w. w.ticket) ws) streams ++ nobody idle) tickets) held.seat.number ≡ Some (Some w.ticket)) ws after
  all_mine [] streams [] idle tickets p e distinct within = tt
  all_mine [] streams (held ∷ after) idle tickets p e distinct within = absurd p
  all_mine (w ∷ ws) streams [] idle tickets p e distinct within = absurd p
  all_mine (w ∷ ws) [] (held ∷ after) idle tickets p e distinct within = absurd (omega (arith, ap length e))
  all_mine (w ∷ ws) (stream ∷ streams) (held ∷ after) idle tickets p e distinct within =
      let n = held.seat.number in
      let next = slice_set tickets n (Some w.ticket) in (
        kept_ticket (map (λ (h : HeldValue). h.seat) after ++ idle) (guests_of (map (λ w. w.ticket) ws) streams ++ nobody idle) next n
            (Some (Some w.ticket)) distinct.0
            (slice_get_set_same tickets n (Some w.ticket) (within n (inl refl))),
        all_mine ws streams after idle next p.1 (ap (λ (vs : List StreamValue). drop 1 vs) e) distinct.1
            (λ m i. let less = within m (inr i) in omega (arith, less, length-set tickets n (Some w.ticket))),
      )

both_zip : (P : Waiting → HeldValue → Type 0) (Q : HeldValue → HeldValue → Type 0) (ws : List Waiting) (old new : List HeldValue)
    → AllZip P ws old → AllZip Q old new → AllZip (λ (w : Waiting) (held : HeldValue). Unit {0}) ws new
both_zip P Q [] [] [] p q = tt
both_zip P Q [] [] (held ∷ new) p q = absurd q
both_zip P Q [] (held ∷ old) new p q = absurd p
both_zip P Q (w ∷ ws) [] new p q = absurd p
both_zip P Q (w ∷ ws) (held ∷ old) [] p q = absurd q
both_zip P Q (w ∷ ws) (held ∷ old) (next ∷ new) p q = (tt, both_zip P Q ws old new p.1 q.1)

-- there is a seat of each number, and as many seats
number_in : (seats : List StreamSeatValue) (n k : ℕ) (seat : StreamSeatValue) → k < length seats → get_or seats k seat ≡ seat
    → seat.number ≡ n → In n (map (λ seat. seat.number) seats)
number_in [] n k seat less here is = absurd (omega (arith, less))
number_in (x ∷ seats) n zero seat less here is = inl (ap (λ (s : StreamSeatValue). s.number) here ∙ is)
number_in (x ∷ seats) n (suc k) seat less here is = inr (number_in seats n k seat (omega (arith, less)) here is)

distinct_seats : (seats : List StreamSeatValue) (count : ℕ) → length seats ≡ count → HaveStreams count seats
    → AreDistinct (map (λ seat. seat.number) seats)
distinct_seats seats count many have =
    let each : length (map (λ (seat : StreamSeatValue). seat.number) seats) ≡ count =
    same_length (λ (seat : StreamSeatValue). seat.number) seats ∙ many in
    distinct_from [] (map (λ (seat : StreamSeatValue). seat.number) seats)
    (λ m less. let found = have m (omega (arith, less, each)) in number_in seats m found.0 found.1 found.2 found.3 found.4)

-- a number of a seat is that of a stream
some_within : {A : Type 0} (P : A → Type 0) (xs : List A) (k : ℕ) → IsSomeAnd (slice_get xs k) P → k < length xs
some_within P [] k p = absurd p
some_within P (x ∷ xs) zero p = omega arith
some_within P (x ∷ xs) (suc k) p = let rest = some_within P xs k p in omega (arith, rest)

pub numbers_within : (desk : ScheduleValue) (seats : List StreamSeatValue) → AreStreamsOf desk seats → (n : ℕ)
    → In n (map (λ seat. seat.number) seats) → n < length desk.streams
numbers_within desk [] all n i = absurd i
numbers_within desk (seat ∷ seats) all n (inl e) =
    subst (λ (m : ℕ). m < length desk.streams) e
    (some_within (IsStreamOf seat) desk.streams seat.number (all 0 seat (omega arith)))
numbers_within desk (seat ∷ seats) all n (inr i) =
    numbers_within desk seats (λ k d less. all (suc k) d (omega (arith, less))) n i

pub rests_within : (most : ℕ) (seats : List StreamSeatValue) → ((n : ℕ) → In n (map (λ seat. seat.number) seats) → n < most)
    → All (λ rest. rest.number < most) (map left_by seats)
rests_within most [] within k d less = absurd (omega (arith, less))
rests_within most (seat ∷ seats) within zero d less = within seat.number (inl refl)
rests_within most (seat ∷ seats) within (suc k) d less =
    rests_within most seats (λ n i. within n (inr i)) k d (omega (arith, less))

-- so the table has the ticket of each request at the number of its stream
module _ (R W : Type 0) where
  pub all_told : (P : Waiting → HeldValue → Type 0) (Q : HeldValue → HeldValue → Type 0) (desk : ScheduleValue) (ws : List Waiting)
      (streams : List StreamValue) (helds after : List HeldValue) (idle : List StreamSeatValue) (table : List (Option ℕ))
      → table ≡ with_tickets (map left_by (map (λ held. held.seat) after ++ idle))
      (guests_of {R = R} {W = W} (map (λ w. w.ticket) ws) streams ++ nobody idle) (replicate 64 None)
      → AllZip P ws helds → AllZip Q helds after → streams ≡ map (λ held. held.stream) after
      → length (map (λ held. held.seat) after ++ idle) ≤ 64
      → length (map (λ held. held.seat) after ++ idle) ≡ length desk.streams
      → HaveStreams (length desk.streams) (map (λ held. held.seat) after ++ idle)
      → AreStreamsOf desk (map (λ held. held.seat) after ++ idle)
      → AllZip (λ w held. slice_get table held.seat.number ≡ Some (Some w.ticket)) ws after
  all_told P Q desk ws streams helds after idle table is seated went same few many have kept =
      let seats = map (λ (held : HeldValue). held.seat) after ++ idle in
      let within = numbers_within desk seats kept in
      subst (λ (these : List (Option ℕ)). AllZip (λ (w : Waiting) (held : HeldValue).
      slice_get these held.seat.number ≡ Some (Some w.ticket)) ws after) (sym is)
      (all_mine R W ws streams after idle (replicate 64 None) (both_zip P Q ws helds after seated went) same
      (distinct_seats seats (length desk.streams) many have)
      (λ n i. let less = within n i in omega (arith, less, many, few, length-replicate {A = Option ℕ} 64 None)))
