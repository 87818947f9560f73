-- What each accepted call makes of a book.
use Rattle.std.proofs.Common.{ℕ, ◌+◌, ◌≡◌, ◌≤◌, max, nat_lt, Bool, true, false, List, length, Some, None, slice_get}
use Rattle.std.proofs.Common.{[], ◌∷◌, ◌++◌, Option, if◌then◌else◌, refl, sym, ◌∙◌, ap, subst, arith}
use Rattle.std.proofs.lemmas.List.{length-map, length-set, map_push}
use Rattle.std.proofs.lemmas.List.Sums.{sum_by_push}
use Rattle.std.proofs.lemmas.Option.{slice_get_within}
use Rattle.lease.specs.Job.{JobValue}
use Rattle.lease.specs.Lease.{LeaseValue}
use Rattle.std.specs.Option.{option_map}
use Rattle.serve_core.specs.declared.counts.Counts.{Counts}
use Rattle.serve_core.specs.declared.refusal.Refusal.TheVariants as refusals
use Rattle.serve_core.specs.Bare.{Blank}
use Rattle.serve_core.specs.Desk.{GivesJob, IsRecorded, LeadsDesk, TakesJob, bare_frames, desk_state, given, held_of, offered, one}
use Rattle.serve_core.specs.Events.{Accepted, Admit, Arrive, Close, Closing, Collect, Image, Lease, Reply, Refused, Start}
use Rattle.serve_core.specs.Events.{Then, Tick, Ticked, Transcript}
use Rattle.serve_core.specs.Events as events
use Rattle.serve_core.specs.Schedule.{HasStream, ScheduleValue, counts_of, stream_closed, stream_collected}
use Rattle.serve_core.specs.Schedule.{stream_offered, with_stream, with_stream_at}
use Rattle.serve_core.specs.Setup.{StreamSpec}
use Rattle.serve_core.specs.Streams.{KeptStream, opened}
use Rattle.serve_core.proofs.Items.Lists.{push_last, slice_get_set_same}
use Rattle.serve_core.proofs.Items.Options.{and_some, some_and}
use Rattle.serve_core.proofs.Schedules.Lifts.{stream_here}
use Rattle.serve_hub.specs.declared.entry.Act.{Act}
use Rattle.serve_hub.specs.declared.entry.Act.TheVariants.{Admitted, Offered, Closed, Leased, Collected}
use Rattle.serve_hub.specs.declared.entry.Seat.{Seat}
use Rattle.serve_hub.specs.declared.entry.Seat.TheVariants.{Stream, Worker}
use Rattle.serve_hub.specs.Books as books
use Rattle.serve_hub.specs.Books.{BookValue, IsBook, IsOut, reserved, specs_of}
use Rattle.serve_hub.specs.Journal.{IsEntry, admission_of, events_of, tick_of, ticks, units_from}
use Rattle.serve_hub.proofs.Clocks.{tick_later}
use Rattle.serve_hub.proofs.Kept.{AddsUnits, grown, one_more}
use Rattle.serve_hub.proofs.Rooms.{charged_still, lease_given, stream_kept, stream_shut}
use Rattle.serve_hub.proofs.Units.{admission_units, offer_units}

-- one entry more, with so much more of the journal's places taken
pub record IsEntered (b : BookValue) (seat : Seat) (act : Act) (desk : ScheduleValue) (units : List ℕ) (more : ℕ)
    : Type 0 where
  pub is_book : IsBook (grown b seat act desk units)
  pub count : books.taken (grown b seat act desk units) ≡ books.taken b + more
  pub led : LeadsDesk b.desk (events_of (specs_of desk) (desk_state b.desk) seat act) desk

ticks_by : (b : Bool) (at : ℕ) → ticks (if b then Some at else None)
    ≡ (if b then Then Start (Tick at) Ticked else Start)
ticks_by true at = refl
ticks_by false at = refl

offer_led : (x y : ScheduleValue) (s at n : ℕ) → LeadsDesk x (offered x.clock s at n) y
    → LeadsDesk x (events_of (specs_of y) (desk_state x) (Stream s) (Offered (tick_of x.clock at) n)) y
offer_led x y s at n led =
    subst (λ (p : Transcript Blank Blank). LeadsDesk x (Then p (Arrive s tt) (Accepted n)) y)
    (sym (ticks_by (nat_lt x.clock at) at)) led

-- events of no band have no units
quiet : (b : BookValue) (desk : ScheduleValue) (seat : Seat) (act : Act)
    → ((w : ℕ) → units_from (desk_state b.desk) w (events_of (specs_of desk) (desk_state b.desk) seat act) ≡ 0)
    → AddsUnits b desk seat act b.units
quiet b desk seat act none w n e = let no = none w in (n, e, omega (arith, no))

-- a call of no band that leaves the number of workers
entered : (b : BookValue) (seat : Seat) (act : Act) (desk : ScheduleValue) (more : ℕ) → IsBook b
    → LeadsDesk b.desk (events_of (specs_of desk) (desk_state b.desk) seat act) desk
    → IsEntry (specs_of desk) (desk_state b.desk) seat act
    → ((w : ℕ) → units_from (desk_state b.desk) w (events_of (specs_of desk) (desk_state b.desk) seat act) ≡ 0)
    → length desk.workers ≡ length b.desk.workers → books.charges desk ≡ books.charges b.desk
    → reserved desk + 1 ≡ reserved b.desk + more → books.taken b + more ≤ b.limit
    → IsEntered b seat act desk b.units more
entered b seat act desk more h led is none workers charges places fits =
    let count : books.taken (grown b seat act desk b.units) ≡ books.taken b + more = omega (arith, places) in
    record {
      is_book = one_more b seat act desk b.units h led is (h.workers ∙ sym workers) (quiet b desk seat act none)
          (h.charges ∙ sym charges) (omega (arith, count, fits));
      count = count;
      led = led;
    }

desk_took : (s at n : ℕ) (job : JobValue) (x y : ScheduleValue) → TakesJob s at job n x y
    → (reserved y ≡ reserved x) × (length y.workers ≡ length x.workers) × (books.charges y ≡ books.charges x)
desk_took s at n job x y took =
    let clock = max x.clock at in
    let a = some_and (slice_get x.streams s) _ took in
    let z : ScheduleValue = record x { clock = clock } in
    let new = stream_offered clock job a.0 in
    rw a.2.1 (stream_kept z s a.0 new a.1 refl, refl, charged_still z s a.0 new a.1 refl)

pub offer_entered : (b : BookValue) (s at n : ℕ) (job : JobValue) (desk : ScheduleValue) → IsBook b
    → LeadsDesk b.desk (offered b.desk.clock s at n) desk → TakesJob s at job n b.desk desk
    → books.taken b + 1 ≤ b.limit
    → IsEntered b (Stream s) (Offered (tick_of b.desk.clock at) n) desk b.units 1
offer_entered b s at n job desk h led took fits =
    let same = desk_took s at n job b.desk desk took in
    entered b (Stream s) (Offered (tick_of b.desk.clock at) n) desk 1 h (offer_led b.desk desk s at n led)
    (tick_later b.desk.clock at)
    (λ w. offer_units (specs_of desk) (desk_state b.desk) w s (tick_of b.desk.clock at) n) same.1 same.2
    (omega (arith, same.0)) fits

was_open : (b : Bool) → (let reply : Reply Blank Blank = Closing in
    reply ≡ (if b then Refused refusals.AlreadyClosed else Closing)) → b ≡ false
was_open true e = absurd (cc)
was_open false e = refl

-- a stream that is closed was open
closed_of : (x y : ScheduleValue) (s : ℕ) (stream : KeptStream) → slice_get x.streams s ≡ Some stream
    → LeadsDesk x (one (Close s) Closing) y → stream.state.is_closed ≡ false
closed_of x y s stream e led =
    was_open stream.state.is_closed (rw (stream_here bare_frames x s stream e) at led.0.1)

pub close_entered : (b : BookValue) (s : ℕ) (desk : ScheduleValue) → IsBook b
    → LeadsDesk b.desk (one (Close s) Closing) desk
    → HasStream b.desk s (λ stream. desk ≡ with_stream_at s (stream_closed stream) b.desk)
    → IsEntered b (Stream s) Closed desk b.units 0
close_entered b s desk h led shuts =
    let a = some_and (slice_get b.desk.streams s) _ shuts in
    let was = closed_of b.desk desk s a.0 a.1 led in
    let fewer = stream_shut b.desk s a.0 (stream_closed a.0) a.1 was refl in
    let places : reserved desk + 1 ≡ reserved b.desk = rw a.2 fewer in
    entered b (Stream s) Closed desk 0 h led tt (λ w. refl) (rw a.2 refl)
    (rw a.2 (charged_still b.desk s a.0 (stream_closed a.0) a.1 refl)) (omega (arith, places)) (omega (arith, h.fits))

pub lease_entered : (b : BookValue) (w : ℕ) (lease : LeaseValue) (desk : ScheduleValue) → IsBook b
    → slice_get b.desk.workers w ≡ Some None
    → LeadsDesk b.desk (one (Lease w) (events.Leased lease.stream lease.number lease.granted)) desk
    → GivesJob w lease b.desk desk → books.taken b + 2 ≤ b.limit
    → IsEntered b (Worker w) (Leased lease.stream lease.number lease.granted) desk b.units 2
lease_entered b w lease desk h free led gives fits =
    let more = lease_given b.desk w lease.stream (held_of lease) gives.stream (given w gives.stream) free gives.here refl
    in
    let places : reserved desk ≡ reserved b.desk + 1 = rw gives.schedule more in
    entered b (Worker w) (Leased lease.stream lease.number lease.granted) desk 2 h led tt (λ v. refl)
    (rw gives.schedule (length-set b.desk.workers w (Some (held_of lease))))
    (rw gives.schedule (charged_still b.desk lease.stream gives.stream (given w gives.stream) gives.here refl))
    (omega (arith, places)) fits

pub collect_entered : (b : BookValue) (s n : ℕ) (stream : KeptStream) (desk : ScheduleValue) → IsBook b
    → LeadsDesk b.desk (one (Collect s) (Image tt)) desk → slice_get b.desk.streams s ≡ Some stream
    → n ≡ stream.state.collected → desk ≡ with_stream_at s (stream_collected stream) b.desk → books.taken b + 1 ≤ b.limit
    → IsEntered b (Stream s) (Collected n) desk b.units 1
collect_entered b s n stream desk h led here number takes fits =
    let still = stream_kept b.desk s stream (stream_collected stream) here refl in
    let places : reserved desk ≡ reserved b.desk = rw takes still in
    entered b (Stream s) (Collected n) desk 1 h led
    (and_some (slice_get (desk_state b.desk).streams s) _ _ (stream_here bare_frames b.desk s stream here) number)
    (λ w. refl) (rw takes refl) (rw takes (charged_still b.desk s stream (stream_collected stream) here refl))
    (omega (arith, places)) fits

-- the lease that is given is the one that is recorded
pub given_out : (b : BookValue) (x : ScheduleValue) (w : ℕ) (lease : LeaseValue) → slice_get x.workers w ≡ Some None
    → GivesJob w lease x b.desk → IsOut b w lease
given_out b x w lease free gives =
    let held = held_of lease in
    let stream = given w gives.stream in
    let mine : slice_get b.desk.workers w ≡ Some (Some held) =
    rw gives.schedule (slice_get_set_same x.workers w (Some held) (slice_get_within x.workers w None free)) in
    let here : slice_get b.desk.streams lease.stream ≡ Some stream =
    rw gives.schedule (slice_get_set_same x.streams lease.stream stream
    (slice_get_within x.streams lease.stream gives.stream gives.here)) in
    let recorded : IsRecorded lease held stream = record {
      stream = refl;
      number = refl;
      grant = refl;
      chain = gives.started.of_chain;
      done = omega (arith, gives.started.steps, gives.none_used);
    } in
    and_some (slice_get b.desk.workers w) _ (Some held) mine
    (and_some (slice_get b.desk.streams lease.stream) _ stream here recorded)

-- how many were collected of the stream that is there
pub collected_here : (streams : List KeptStream) (s : ℕ) (stream : KeptStream) (counts : Counts) → slice_get streams s ≡ Some stream
    → Some counts ≡ option_map (λ (x : KeptStream). counts_of x.state) (slice_get streams s)
    → counts.collected ≡ stream.state.collected
collected_here streams s stream counts e told =
    let both : Some counts ≡ Some (counts_of stream.state) = told ∙ rw e refl in cc

-- one stream more has no charges, and its close is reserved
joined_places : (x : ScheduleValue) (spec : StreamSpec) → reserved (with_stream spec x) ≡ reserved x + 1
joined_places x spec = omega (arith, sum_by_push books.one_open x.streams (opened spec))

joined_charges : (x : ScheduleValue) (spec : StreamSpec) → books.charges (with_stream spec x) ≡ books.charges x
joined_charges x spec =
    let more = sum_by_push (λ (stream : KeptStream). stream.state.charged) x.streams (opened spec) in omega (arith, more)

pub admit_entered : (b : BookValue) (s : ℕ) (spec : StreamSpec) (desk : ScheduleValue) → IsBook b
    → LeadsDesk b.desk (one (Admit spec) (events.Admitted s)) desk
    → (s ≡ length b.desk.streams) × (desk ≡ with_stream spec b.desk) → books.taken b + 2 ≤ b.limit
    → IsEntered b (Stream s) Admitted desk b.units 2
admit_entered b s spec desk h led is fits =
    let specs = specs_of desk in
    let all : specs ≡ specs_of b.desk ++ spec ∷ [] =
    ap specs_of is.1 ∙ map_push (λ (stream : KeptStream). stream.state.spec) b.desk.streams (opened spec) in
    let count = length-map b.desk.streams (λ (stream : KeptStream). stream.state.spec) in
    let its : slice_get specs s ≡ Some spec =
    subst (λ (xs : List StreamSpec). slice_get xs s ≡ Some spec) (sym all)
    (push_last (specs_of b.desk) spec s (omega (arith, count, is.0))) in
    let told : LeadsDesk b.desk (events_of specs (desk_state b.desk) (Stream s) Admitted) desk =
    subst (λ (o : Option StreamSpec). LeadsDesk b.desk (admission_of s o) desk) (sym its) led in
    let places : reserved desk ≡ reserved b.desk + 1 = rw is.1 (joined_places b.desk spec) in
    entered b (Stream s) Admitted desk 2 h told (slice_get_within specs s spec its)
    (λ w. admission_units (desk_state b.desk) w s (slice_get specs s)) (ap (λ (x : ScheduleValue). length x.workers) is.1)
    (rw is.1 (joined_charges b.desk spec)) (omega (arith, places)) fits
