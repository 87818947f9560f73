-- What a settlement makes of a book.
use Rattle.std.proofs.Common.{ℕ, ◌+◌, ◌-◌, ◌≡◌, ◌≤◌, ◌<◌, inl, inr, length, List, sum, Some, None, Option}
use Rattle.std.proofs.Common.{is_some, slice_get, slice_set, slice_index_or, MatchOption, refl, sym}
use Rattle.std.proofs.Common.{◌∙◌, ap, subst, arith}
use Rattle.std.proofs.lemmas.List.{length-set}
use Rattle.std.proofs.lemmas.List.Sums.{sum_by-set}
use Rattle.std.proofs.lemmas.Option.{slice_get-get_or, slice_get_within}
use Rattle.lease.specs.Lease.{LeaseValue, spent_of}
use Rattle.serve_core.specs.declared.held.Held.{Held}
use Rattle.serve_core.specs.AtOnce.{bands, cost_of_next}
use Rattle.serve_core.specs.Bare.{Blank}
use Rattle.serve_core.specs.Desk.{IsRecorded, LeadsDesk, TakesBack, TakesImage, bare_frames, brought, desk_state}
use Rattle.serve_core.specs.Desk.{settlement}
use Rattle.serve_core.specs.Schedule.{HasLease, HasStream, ScheduleValue, stream_by, stream_finished}
use Rattle.serve_core.specs.Schedule.{stream_returned, with_held, with_stream_at}
use Rattle.serve_core.specs.Sound.{Sound}
use Rattle.serve_core.specs.States.{State, held_at}
use Rattle.serve_core.specs.Streams.{KeptStream}
use Rattle.serve_core.proofs.Events.Soundness.{one_item}
use Rattle.serve_core.proofs.Events.Steps.{held_at_is}
use Rattle.serve_core.proofs.Events.Streams.{same_or}
use Rattle.serve_core.proofs.Items.Lists.{slice_get_set_other, slice_get_set_same}
use Rattle.serve_core.proofs.Items.Options.{some_and}
use Rattle.serve_core.proofs.Schedules.Lifts.{stream_here}
use Rattle.serve_hub.specs.declared.entry.Act.TheVariants.{Settled}
use Rattle.serve_hub.specs.declared.entry.Seat.TheVariants.{Worker}
use Rattle.serve_hub.specs.Answers.{is_finished, settled_as}
use Rattle.serve_hub.specs.Books as books
use Rattle.serve_hub.specs.Books.{BookValue, IsBook, reserved, specs_of, with_units}
use Rattle.serve_hub.specs.Journal.{events_of, number_of, units_from}
use Rattle.serve_hub.proofs.Entered.{IsEntered}
use Rattle.serve_hub.proofs.Kept.{AddsUnits, grown, one_more}
use Rattle.serve_hub.proofs.Rooms.{charged_more, lease_settled}
use Rattle.serve_hub.proofs.Units.{bands_units}

-- where a settlement leaves the jobs
abbrev pub Takes : (w : ℕ) → LeaseValue → Option ℕ → (old new : ScheduleValue) → Type 0
Takes w lease n old new =
    MatchOption n (TakesBack w lease old new) (λ number. TakesImage w lease number old new)

-- the frame that is finished is the lease's
pub finished_number : (x y : ScheduleValue) (w : ℕ) (lease : LeaseValue) (n : Option ℕ) (held : Held)
    → Sound (desk_state x) → HasLease x w held → lease.stream ≡ held.stream → Takes w lease n x y
    → n ≡ number_of (is_some n) (held_at x.workers w)
finished_number x y w lease None held h mine same takes = refl
finished_number x y w lease (Some number) held h mine same takes =
    let its = h.leases w held mine in
    let here = stream_here bare_frames x lease.stream takes.stream takes.here in
    let one = one_item (desk_state x).streams held.stream lease.stream its.0 (stream_by bare_frames takes.stream)
    (sym same) its.1 here in
    rw (held_at_is x.workers w (Some held) mine)
    (ap Some (takes.first ∙ sym (its.2.number ∙ ap (λ s. s.finished) one)))

-- the settlement itself has no units
settlement_units : (m : State Blank) (v w k : ℕ) (n : Option ℕ)
    → units_from m v (settlement w k n) ≡ units_from m v (bands w k)
settlement_units m v w k None = omega arith
settlement_units m v w k (Some number) = omega arith

-- what is spent under a recorded lease is what its bands cost
pub spent_is : (lease : LeaseValue) (held : Held) (stream : KeptStream) → IsRecorded lease held stream
    → spent_of lease ≡ cost_of_next lease.used (stream_by bare_frames stream)
spent_is lease held stream is =
    let first : lease.job.done - lease.used ≡ stream.state.done = omega (arith, is.done) in
    rw (first, is.chain) refl

-- each worker's units after a settlement
pub units_added : (b : BookValue) (w k spent : ℕ) (n : Option ℕ) (held : Held) (stream : KeptStream) → IsBook b
    → HasLease b.desk w held → slice_get b.desk.streams held.stream ≡ Some stream → held.used + k ≤ held.grant
    → spent ≡ cost_of_next k (stream_by bare_frames stream) → (v m : ℕ)
    → slice_get (with_units w spent b).units v ≡ Some m
    → (l : ℕ) × (slice_get b.units v ≡ Some l)
    × (m ≡ l + units_from (desk_state b.desk) v (settlement w k n))
units_added b w k spent n held stream h mine here within cost v m e =
    let was = slice_index_or b.units w 0 in
    let inside : w < length b.units = omega (arith, slice_get_within b.desk.workers w (Some held) mine, h.workers) in
    let stepped = settlement_units (desk_state b.desk) v w k n
    ∙ bands_units (desk_state b.desk) v w k held (stream_by bare_frames stream) mine
    (stream_here bare_frames b.desk held.stream stream here) within in
    elim (same_or w v) [
      | inl p ↦ (
          let mine_now : slice_get b.units v ≡ Some was =
          subst (λ (i : ℕ). slice_get b.units i ≡ Some was) p.0 (slice_get-get_or b.units w 0 inside) in
          let new : slice_get (with_units w spent b).units v ≡ Some (was + spent) =
          subst (λ (i : ℕ). slice_get (with_units w spent b).units i ≡ Some (was + spent)) p.0
          (slice_get_set_same b.units w (was + spent) inside) in
          let value : m ≡ was + spent = cc in
          let cost_now : units_from (desk_state b.desk) v (settlement w k n)
          ≡ cost_of_next k (stream_by bare_frames stream) = stepped ∙ rw p.1 refl in
          (was, mine_now, omega (arith, value, cost, cost_now)))
      | inr p ↦ (
          let none : units_from (desk_state b.desk) v (settlement w k n) ≡ 0 = stepped ∙ rw p.1 refl in
          (m, sym (slice_get_set_other b.units w v (was + spent) (λ q. p.0 (sym q))) ∙ e, omega (arith, none)))
    ]

-- the places, the workers and the charges after a settlement
pub record IsLeft (x y : ScheduleValue) (lease : LeaseValue) : Type 0 where
  pub places : reserved y + 1 ≡ reserved x
  pub workers : length y.workers ≡ length x.workers
  pub stream : KeptStream
  pub here : slice_get x.streams lease.stream ≡ Some stream
  pub charges : books.charges y ≡ books.charges x + cost_of_next lease.used stream.state

left_by : (x y : ScheduleValue) (w : ℕ) (lease : LeaseValue) (held : Held) (old new : KeptStream) → HasLease x w held
    → slice_get x.streams lease.stream ≡ Some old → new.state.is_closed ≡ old.state.is_closed
    → new.state.charged ≡ old.state.charged + cost_of_next lease.used old.state
    → y ≡ with_held w None (with_stream_at lease.stream new x) → IsLeft x y lease
left_by x y w lease held old new mine here closed charged is = record {
  places = rw is (lease_settled x w lease.stream held old new mine here closed);
  workers = rw is (length-set x.workers w None);
  stream = old;
  here = here;
  charges = rw is (charged_more x lease.stream (cost_of_next lease.used old.state) old new here charged);
}

pub desk_settled : (x y : ScheduleValue) (w : ℕ) (lease : LeaseValue) (n : Option ℕ) (held : Held) → HasLease x w held
    → Takes w lease n x y → IsLeft x y lease
desk_settled x y w lease None held mine takes =
    left_by x y w lease held takes.stream (stream_returned (brought lease takes.stream)) mine takes.here refl refl
    takes.schedule
desk_settled x y w lease (Some number) held mine takes =
    left_by x y w lease held takes.stream (stream_finished takes.images (brought lease takes.stream)) mine takes.here refl refl
    takes.schedule

-- a worker's units in the sum of all
sum_more : (units : List ℕ) (w more : ℕ) → w < length units
    → sum (slice_set units w (slice_index_or units w 0 + more)) ≡ sum units + more
sum_more units w more l =
    let all = sum_by-set (λ (n : ℕ). n) units w (slice_index_or units w 0 + more) 0 l in omega (arith, all)

pub settle_entered : (b : BookValue) (w : ℕ) (lease : LeaseValue) (n : Option ℕ) (held : Held)
    (desk : ScheduleValue) → IsBook b → HasLease b.desk w held
    → HasStream b.desk held.stream (IsRecorded lease held) → held.used ≡ 0 → lease.used ≤ lease.granted
    → LeadsDesk b.desk (settlement w lease.used n) desk → Takes w lease n b.desk desk
    → IsEntered b (Worker w) (Settled lease.used (is_some n)) desk (with_units w (spent_of lease) b).units 0
settle_entered b w lease n held desk h mine recorded unused within led takes =
    let a = some_and (slice_get b.desk.streams held.stream) _ recorded in
    let stream = a.0 in
    let here = a.1 in
    let is = a.2 in
    let number = finished_number b.desk desk w lease n held h.sound mine is.stream takes in
    let left = desk_settled b.desk desk w lease n held mine takes in
    let act = Settled lease.used (is_some n) in
    let units = (with_units w (spent_of lease) b).units in
    let its : LeadsDesk b.desk (events_of (specs_of desk) (desk_state b.desk) (Worker w) act) desk =
    subst (λ (o : Option ℕ). LeadsDesk b.desk (settlement w lease.used o) desk) number led in
    let all_used : held.used + lease.used ≤ held.grant = omega (arith, unused, within, is.grant) in
    let added = units_added b w lease.used (spent_of lease) n held stream h mine here all_used
    (spent_is lease held stream is) in
    let adds : AddsUnits b desk (Worker w) act units =
    subst (λ (o : Option ℕ). (v m : ℕ) → slice_get units v ≡ Some m → (l : ℕ) × (slice_get b.units v ≡ Some l)
    × (m ≡ l + units_from (desk_state b.desk) v (settlement w lease.used o))) number added in
    let count : books.taken (grown b (Worker w) act desk units) ≡ books.taken b + 0 = omega (arith, left.places) in
    let inside : w < length b.units = omega (arith, slice_get_within b.desk.workers w (Some held) mine, h.workers) in
    let one = one_item b.desk.streams lease.stream held.stream left.stream stream is.stream left.here here in
    let cost = ap (λ (x : KeptStream). cost_of_next lease.used x.state) one in
    let sums : sum units + books.charges b.opening ≡ books.charges desk =
    omega (arith, sum_more b.units w (spent_of lease) inside, spent_is lease held stream is, cost, left.charges, h.charges)
    in
    record {
      is_book = one_more b (Worker w) act desk units h its tt
          (length-set b.units w (slice_index_or b.units w 0 + spent_of lease) ∙ h.workers ∙ sym left.workers) adds
          sums (omega (arith, count, h.fits));
      count = count;
      led = its;
    }

-- what a settlement answers tells whether it finished its frame
pub finished_as : (n : Option ℕ) → is_some n ≡ is_finished (settled_as n)
finished_as None = refl
finished_as (Some number) = refl
