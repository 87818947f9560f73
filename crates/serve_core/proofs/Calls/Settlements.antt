-- What a settlement that brings its job back makes of a desk.
use Rattle.std.proofs.Common.{ℕ, ◌+◌, ◌-◌, ◌^◌, ◌≡◌, ◌≢◌, ◌≤◌, ◌<◌, List, Option, Some, None, IsSome, IsSomeAnd}
use Rattle.std.proofs.Common.{MatchOption, IfSome, IfNone, slice_get, slice_set, drop, refl, sym, ◌∙◌, ap, subst, arith}
use Rattle.std.proofs.lemmas.List.{set-set}
use Rattle.std.proofs.lemmas.Option.{slice_get-map, slice_get_within}
use Rattle.std.specs.Option.{option_map}
use Rattle.cbs_account.specs.Rules.{CanCharge}
use Rattle.filters.specs.Chain.{ChainValue}
use Rattle.filters.specs.Costs.{step_costs}
use Rattle.lease.specs.Job.{JobValue}
use Rattle.lease.specs.Lease.{LeaseValue, spent_of}
use Rattle.serve_core.specs.declared.collected.Collected.{Collected}
use Rattle.serve_core.specs.declared.held.Held.{Held}
use Rattle.serve_core.specs.AtOnce.{bands_settled, cost_of_next, worked_at_once}
use Rattle.serve_core.specs.Bare.{Blank, measures_any, is_any_image}
use Rattle.serve_core.specs.Counts as counts
use Rattle.serve_core.specs.Desk.{CanBring, IsHeldBy, IsRecorded, LeadsDesk, TakesBack, TakesImage, bare_frames}
use Rattle.serve_core.specs.Desk.{brought, brought_by, desk_state, settlement}
use Rattle.serve_core.specs.DeskInside.{IsDesk}
use Rattle.serve_core.specs.Events.{Finished, Reply, Returned, Transcript}
use Rattle.serve_core.specs.Grants.{cost_of_first}
use Rattle.serve_core.specs.Rules.{settle_reply}
use Rattle.serve_core.specs.Schedule.{HasLease, HasStream, ScheduleValue, stream_by, stream_finished, stream_returned, with_held}
use Rattle.serve_core.specs.Schedule.{with_stream_at}
use Rattle.serve_core.specs.Setup.{steps}
use Rattle.serve_core.specs.States.{StreamState, did_any}
use Rattle.serve_core.specs.Streams.{GainsImage, KeptStream}
use Rattle.serve_core.proofs.Calls.Desks.{away_set, desk_on}
use Rattle.serve_core.proofs.Calls.Lendings.{unused_less}
use Rattle.serve_core.proofs.Charges.AtOnce.{settled_is, test_no, test_yes}
use Rattle.serve_core.proofs.Charges.Facts.{bands_left, lease_of}
use Rattle.serve_core.proofs.Items.Lists.{slice_get_set_same}
use Rattle.serve_core.proofs.Items.Options.{and_some, some_and}
use Rattle.serve_core.proofs.Schedules.Lifts.{one_lease, stream_here}

mapped : {X Y : Type 0} (f : X → Y) (o : Option X) (y : Y) → option_map f o ≡ Some y → (x : X) × (o ≡ Some x)
mapped f None y e = absurd (cc)
mapped f (Some x) y e = (x, refl)

-- the stream of a lease
pub its_stream : (x : ScheduleValue) (w : ℕ) (held : Held) → IsDesk x → HasLease x w held
    → (stream : KeptStream) × (slice_get x.streams held.stream ≡ Some stream)
its_stream x w held d mine =
    let found = d.sound.leases w held mine in
    mapped (stream_by bare_frames) (slice_get x.streams held.stream) found.0
    (sym (slice_get-map (stream_by bare_frames) x.streams held.stream) ∙ found.1)

-- what the bands of a lease cost
spent_is : (lease : LeaseValue) (held : Held) (stream : KeptStream) → IsRecorded lease held stream
    → spent_of lease ≡ cost_of_next lease.used stream.state
spent_is lease held stream r =
    let from : lease.job.done - lease.used ≡ stream.state.done = omega (arith, r.done) in
    ap (λ (d : ℕ). cost_of_first lease.used (drop d (step_costs lease.job.chain))) from
    ∙ ap (λ (chain : ChainValue). cost_of_first lease.used (drop stream.state.done (step_costs chain))) r.chain

-- they are granted
granted : (lease : LeaseValue) (held : Held) (stream : KeptStream) → IsRecorded lease held stream → held.used ≡ 0
    → lease.used ≤ lease.granted → held.used + lease.used ≤ held.grant
granted lease held stream r n l = omega (arith, r.grant)

-- so the job can be brought back with them
can_bring : (x : ScheduleValue) (w units : ℕ) (held : Held) (lease : LeaseValue) (stream : KeptStream) → IsDesk x
    → HasLease x w held → slice_get x.streams held.stream ≡ Some stream → IsRecorded lease held stream
    → lease.used ≤ lease.granted → IsSome lease.job.scratch → units ≡ spent_of lease
    → CanBring lease.job lease.used units stream
can_bring x w units held lease stream d mine here r l s u =
    let y : StreamState Blank = stream_by bare_frames stream in
    let there = stream_here bare_frames x held.stream stream here in
    let own = lease_of (desk_state x) w held y d.sound mine there in
    let left = bands_left (desk_state x) w lease.used held y d.sound mine there
    (granted lease held stream r (d.unused w held mine) l) in
    let cost : units ≡ cost_of_next lease.used stream.state = u ∙ spent_is lease held stream r in
    record {
      out = let out : stream.state.holder ≡ Some w = own.holder in rw out refl;
      away = d.away held.stream stream here;
      started = record { of_chain = r.chain; steps = r.done; started = s };
      left = left.0;
      cost = cost;
      charge = subst (λ (u : ℕ). CanCharge u stream.state.account) (sym cost) left.1;
      few = subst (λ (u : ℕ). stream.state.charged + u < 2 ^ 64) (sym cost) left.2;
    }

pub brings : (x : ScheduleValue) (w units : ℕ) (held : Held) (lease : LeaseValue) → IsDesk x
    → HasLease x w held → IsHeldBy x w lease → lease.used ≤ lease.granted → IsSome lease.job.scratch
    → units ≡ spent_of lease → HasStream x held.stream (CanBring lease.job lease.used units)
brings x w units held lease d mine known l s u =
    let a = its_stream x w held d mine in
    and_some (slice_get x.streams held.stream) _ a.0 a.1
    (can_bring x w units held lease a.0 d mine a.1 (known held a.0 mine a.1) l s u)

-- the job is back in its stream
abbrev pub BringsJob : ScheduleValue → ℕ → JobValue → ℕ → ScheduleValue → Type 0
BringsJob x s job k y = HasStream x s (λ stream. y ≡ with_stream_at s (brought_by job k stream) x)

brought_here : (x : ScheduleValue) (s k : ℕ) (job : JobValue) (stream : KeptStream) → slice_get x.streams s ≡ Some stream
    → slice_get (slice_set x.streams s (brought_by job k stream)) s ≡ Some (brought_by job k stream)
brought_here x s k job stream here =
    slice_get_set_same x.streams s (brought_by job k stream) (slice_get_within x.streams s stream here)

pub brought_leased : (x y : ScheduleValue) (s k : ℕ) (job : JobValue) → BringsJob x s job k y
    → HasStream y s (λ stream. IsSome stream.leased)
brought_leased x y s k job b =
    let a = some_and (slice_get x.streams s) _ b in
    rw a.2 (rw (brought_here x s k job a.0 a.1) refl)

-- and is then put where it belongs
abbrev pub PutsBack : ScheduleValue → ℕ → Held → ScheduleValue → Type 0
PutsBack y w held z =
    HasStream y held.stream (λ stream. (stream.state.done ≢ steps stream.state.spec)
    × (z ≡ with_held w None (with_stream_at held.stream (stream_returned stream) y)))

abbrev pub PutsImage : ScheduleValue → ℕ → Held → ℕ → ScheduleValue → Type 0
PutsImage y w held number z =
    HasStream y held.stream (λ stream. HasStream z held.stream (λ after.
    (stream.state.done ≡ steps stream.state.spec) × (number ≡ stream.state.finished)
    × IsSomeAnd stream.leased (λ job. GainsImage job stream.images after.images)
    × (z ≡ with_held w None (with_stream_at held.stream (stream_finished after.images stream) y))))

put_over : (x : ScheduleValue) (w s : ℕ) (one other : KeptStream)
    → with_held w None (with_stream_at s other (with_stream_at s one x)) ≡ with_held w None (with_stream_at s other x)
put_over x w s one other =
    ap (λ (streams : List KeptStream).
    let v : ScheduleValue = record x { streams = streams; workers = slice_set x.workers w None } in v)
    (set-set x.streams s one other)

-- the settlement leads on
put_led : (x : ScheduleValue) (w k : ℕ) (held : Held) (stream new : KeptStream) → HasLease x w held
    → slice_get x.streams held.stream ≡ Some stream → held.used + k ≤ held.grant
    → let r : Reply Blank Blank = settle_reply (worked_at_once k (stream_by bare_frames stream)) in
    stream_by bare_frames new ≡ did_any (worked_at_once k (stream_by bare_frames stream)) (counts.settled r)
    → LeadsDesk x (bands_settled w k r) (with_held w None (with_stream_at held.stream new x))
put_led x w k held stream new mine here l same =
    let y : StreamState Blank = stream_by bare_frames stream in
    let led = settled_is measures_any is_any_image (desk_state x) w k held y mine
    (stream_here bare_frames x held.stream stream here) l in
    (led.0, led.1 ∙ sym (one_lease bare_frames x w held.stream None new _ same))

-- the reply tells whether all steps are done
reply_back : (x : StreamState Blank) → x.done ≢ steps x.spec
    → let r : Reply Blank Blank = Returned in settle_reply x ≡ r
reply_back x n = rw (test_no x.done (steps x.spec) n) refl

reply_end : (x : StreamState Blank) (number : ℕ) → x.done ≡ steps x.spec → number ≡ x.finished
    → let r : Reply Blank Blank = Finished number in settle_reply x ≡ r
reply_end x number e n = rw (test_yes x.done (steps x.spec) e, n) refl

put_back_led : (x : ScheduleValue) (w k : ℕ) (held : Held) (job : JobValue) (stream : KeptStream) → HasLease x w held
    → slice_get x.streams held.stream ≡ Some stream → held.used + k ≤ held.grant
    → stream.state.done + k ≢ steps stream.state.spec
    → LeadsDesk x (bands_settled w k Returned)
    (with_held w None (with_stream_at held.stream (stream_returned (brought_by job k stream)) x))
put_back_led x w k held job stream mine here l n =
    let y : StreamState Blank = worked_at_once k (stream_by bare_frames stream) in
    let new : KeptStream = stream_returned (brought_by job k stream) in
    let e = reply_back y n in
    subst (λ (r : Reply Blank Blank). LeadsDesk x (bands_settled w k r)
    (with_held w None (with_stream_at held.stream new x))) e
    (put_led x w k held stream new mine here l
    (ap (λ (r : Reply Blank Blank). did_any y (counts.settled r)) (sym e)))

put_image_led : (x : ScheduleValue) (w k number : ℕ) (held : Held) (job : JobValue) (stream : KeptStream)
    (images : List Collected) → HasLease x w held → slice_get x.streams held.stream ≡ Some stream
    → held.used + k ≤ held.grant → stream.state.done + k ≡ steps stream.state.spec
    → number ≡ stream.state.finished
    → LeadsDesk x (bands_settled w k (Finished number))
    (with_held w None (with_stream_at held.stream (stream_finished images (brought_by job k stream)) x))
put_image_led x w k number held job stream images mine here l e n =
    let y : StreamState Blank = worked_at_once k (stream_by bare_frames stream) in
    let new : KeptStream = stream_finished images (brought_by job k stream) in
    let e = reply_end y number e n in
    subst (λ (r : Reply Blank Blank). LeadsDesk x (bands_settled w k r)
    (with_held w None (with_stream_at held.stream new x))) e
    (put_led x w k held stream new mine here l
    (ap (λ (r : Reply Blank Blank). did_any y (counts.settled r)) (sym e)))

-- and leaves a desk
put_desk : (x : ScheduleValue) (w : ℕ) (held : Held) (new : KeptStream) (p : Transcript Blank Blank) → IsDesk x
    → new.leased ≡ None → LeadsDesk x p (with_held w None (with_stream_at held.stream new x))
    → IsDesk (with_held w None (with_stream_at held.stream new x))
put_desk x w held new p d n led =
    desk_on x (with_held w None (with_stream_at held.stream new x)) p d led (away_set x.streams held.stream new d.away n)
    (unused_less x.workers w d.unused)

-- what is said of a settlement
abbrev pub Settles : (x z : ScheduleValue) (w : ℕ) → LeaseValue → Option ℕ → Type 0
Settles x z w lease n =
    LeadsDesk x (settlement w lease.used n) z
    × MatchOption n (TakesBack w lease x z) (λ number. TakesImage w lease number x z)
    × IsDesk z

-- the schedule's settlement, seen from the stream before the job was brought back
settled_back : (x z : ScheduleValue) (w : ℕ) (held : Held) (lease : LeaseValue) (stream : KeptStream) → IsDesk x
    → HasLease x w held → slice_get x.streams held.stream ≡ Some stream → IsRecorded lease held stream
    → lease.used ≤ lease.granted
    → PutsBack (with_stream_at held.stream (brought lease stream) x) w held z → Settles x z w lease None
settled_back x z w held lease stream d mine here r l put =
    let new : KeptStream = stream_returned (brought lease stream) in
    let v : ScheduleValue = with_held w None (with_stream_at held.stream new x) in
    let put : (stream.state.done + lease.used ≢ steps stream.state.spec)
    × (z ≡ with_held w None (with_stream_at held.stream new (with_stream_at held.stream (brought lease stream) x))) =
    rw (brought_here x held.stream lease.used lease.job stream here) at put in
    let e : z ≡ v = put.1 ∙ put_over x w held.stream (brought lease stream) new in
    let led = put_back_led x w lease.used held lease.job stream mine here
    (granted lease held stream r (d.unused w held mine) l) put.0 in
    rw e (
      led,
      record {
        stream = stream;
        here = rw r.stream here;
        left = put.0;
        schedule = ap (λ (s : ℕ). with_held w None (with_stream_at s new x)) (sym r.stream);
      },
      put_desk x w held new (bands_settled w lease.used Returned) d refl led,
    )

settled_end : (x z : ScheduleValue) (w number : ℕ) (held : Held) (lease : LeaseValue) (stream : KeptStream) → IsDesk x
    → HasLease x w held → slice_get x.streams held.stream ≡ Some stream → IsRecorded lease held stream
    → lease.used ≤ lease.granted
    → PutsImage (with_stream_at held.stream (brought lease stream) x) w held number z
    → Settles x z w lease (Some number)
settled_end x z w number held lease stream d mine here r l put =
    let put = rw (brought_here x held.stream lease.used lease.job stream here) at put in
    let a = some_and (slice_get z.streams held.stream) _ put in
    let new : KeptStream = stream_finished a.0.images (brought lease stream) in
    let v : ScheduleValue = with_held w None (with_stream_at held.stream new x) in
    let e : z ≡ v = a.2.3 ∙ put_over x w held.stream (brought lease stream) new in
    let led = put_image_led x w lease.used number held lease.job stream a.0.images mine here
    (granted lease held stream r (d.unused w held mine) l) a.2.0 a.2.1 in
    rw e (
      led,
      record {
        stream = stream;
        here = rw r.stream here;
        all = a.2.0;
        first = a.2.1;
        images = a.0.images;
        gains = a.2.2;
        schedule = ap (λ (s : ℕ). with_held w None (with_stream_at s new x)) (sym r.stream);
      },
      put_desk x w held new (bands_settled w lease.used (Finished number)) d refl led,
    )

pub settles : (x y z : ScheduleValue) (w : ℕ) (held : Held) (lease : LeaseValue) (n : Option ℕ) → IsDesk x
    → HasLease x w held → IsHeldBy x w lease → lease.used ≤ lease.granted
    → BringsJob x held.stream lease.job lease.used y → IfNone n (PutsBack y w held z)
    → IfSome n (λ number. PutsImage y w held number z) → Settles x z w lease n
settles x y z w held lease None d mine known l b back end =
    let a = some_and (slice_get x.streams held.stream) _ b in
    settled_back x z w held lease a.0 d mine a.1 (known held a.0 mine a.1) l
    (subst (λ (y : ScheduleValue). PutsBack y w held z) a.2 back)
settles x y z w held lease (Some number) d mine known l b back end =
    let a = some_and (slice_get x.streams held.stream) _ b in
    settled_end x z w number held lease a.0 d mine a.1 (known held a.0 mine a.1) l
    (subst (λ (y : ScheduleValue). PutsImage y w held number z) a.2 end)
