-- What a lease that takes its job away makes of a desk.
use Rattle.std.proofs.Common.{ℕ, ◌+◌, ◌≡◌, ◌≤◌, inl, inr, List, Option, Some, None, IsSome, IsSomeAnd, slice_get}
use Rattle.std.proofs.Common.{slice_set, refl, sym, ◌∙◌, ap, subst, arith}
use Rattle.std.proofs.lemmas.List.{set-set}
use Rattle.std.proofs.lemmas.Option.{slice_get_within}
use Rattle.filters.specs.Steps.{steps_of}
use Rattle.lease.specs.Job.{JobValue}
use Rattle.lease.specs.Lease.{LeaseValue, granted_of}
use Rattle.serve_core.specs.declared.held.Held.{Held}
use Rattle.serve_core.specs.Bare.{Blank, measures_any, is_any_image}
use Rattle.serve_core.specs.Desk.{GivesJob, LeadsDesk, bare_frames, desk_state, given, one}
use Rattle.serve_core.specs.DeskInside.{AreUnused, IsDesk}
use Rattle.serve_core.specs.Events.{Lease, Leased}
use Rattle.serve_core.specs.Schedule.{HasStream, IsLending, ScheduleValue, stream_by, with_held, with_stream_at}
use Rattle.serve_core.specs.Setup.{steps}
use Rattle.serve_core.specs.Streams.{IsStarted, KeptStream, with_leased}
use Rattle.serve_core.proofs.Bands.Costs.{steps_are}
use Rattle.serve_core.proofs.Calls.Desks.{away_set, desk_on, led_one, set_or}
use Rattle.serve_core.proofs.Charges.AtOnce.{used_more}
use Rattle.serve_core.proofs.Charges.Facts.{lease_of}
use Rattle.serve_core.proofs.Events.Soundness.{one_item}
use Rattle.serve_core.proofs.Items.Lists.{slice_get_set_same}
use Rattle.serve_core.proofs.Items.Options.{some_and}
use Rattle.serve_core.proofs.Rules.Allowing.{lease_allowed}
use Rattle.serve_core.proofs.Schedules.Lifts.{led_lease, stream_here}

some_held : (h g : Held) → Some h ≡ Some g → g ≡ h
some_held h g e = cc

-- a new lease is unused, and a settled one is gone
pub unused_more : (workers : List (Option Held)) (w : ℕ) (held : Held) → AreUnused workers → held.used ≡ 0
    → AreUnused (slice_set workers w (Some held))
unused_more workers w held h n v other e =
    elim (set_or workers w v (Some held) (Some other) e) [
      | inl new ↦ let same = some_held other held new in rw (← same) n
      | inr old ↦ h v other old
    ]

pub unused_less : (workers : List (Option Held)) (w : ℕ) → AreUnused workers
    → AreUnused (slice_set workers w None)
unused_less workers w h v other e =
    elim (set_or workers w v None (Some other) e) [
      | inl new ↦ absurd (cc)
      | inr old ↦ h v other old
    ]

-- the stream of a new lease
lent_here : (x y : ScheduleValue) (w : ℕ) (held : Held) (l : IsLending w held x y)
    → slice_get y.streams held.stream ≡ Some l.stream_after
lent_here x y w held l =
    rw l.schedule (slice_get_set_same x.streams held.stream l.stream_after
    (slice_get_within x.streams held.stream l.stream_before l.here))

pub lent_job : (x y : ScheduleValue) (w : ℕ) (held : Held) → IsLending w held x y
    → HasStream y held.stream (λ stream. IsSome stream.leased)
lent_job x y w held l =
    rw (lent_here x y w held l) (let job = some_and l.stream_after.leased _ l.lent.started in rw job.1 refl)

-- its job is handed over
abbrev pub HandsOver : ScheduleValue → ℕ → JobValue → ScheduleValue → Type 0
HandsOver y s job z =
    HasStream y s (λ stream. (stream.leased ≡ Some job) × (z ≡ with_stream_at s (with_leased None stream) y))

handed_stream : (x y z : ScheduleValue) (w : ℕ) (held : Held) (job : JobValue) (l : IsLending w held x y)
    → HandsOver y held.stream job z
    → (l.stream_after.leased ≡ Some job) × (z ≡ with_stream_at held.stream (with_leased None l.stream_after) y)
handed_stream x y z w held job l h =
    let a = some_and (slice_get y.streams held.stream) _ h in
    let same : a.0 ≡ l.stream_after =
    one_item y.streams held.stream held.stream a.0 l.stream_after refl a.1 (lent_here x y w held l) in
    subst (λ (stream : KeptStream). (stream.leased ≡ Some job) × (z ≡ with_stream_at held.stream (with_leased None stream) y))
    same a.2

handed : (x y z : ScheduleValue) (w : ℕ) (held : Held) (job : JobValue) (l : IsLending w held x y)
    → HandsOver y held.stream job z
    → z ≡ with_held w (Some held) (with_stream_at held.stream (given w l.stream_before) x)
handed x y z w held job l h =
    let away : with_leased None l.stream_after ≡ given w l.stream_before =
    ap (λ (stream : KeptStream). with_leased None stream) l.lent.stream in
    (handed_stream x y z w held job l h).1
    ∙ ap (λ (stream : KeptStream). with_stream_at held.stream stream y) away
    ∙ ap (λ (y : ScheduleValue). with_stream_at held.stream (given w l.stream_before) y) l.schedule
    ∙ ap (λ (streams : List KeptStream). let v : ScheduleValue =
    record x { streams = streams; workers = slice_set x.workers w (Some held) } in v)
    (set-set x.streams held.stream l.stream_after (given w l.stream_before))

-- the job that is handed over is the front one, started
handed_job : (x y z : ScheduleValue) (w : ℕ) (held : Held) (job : JobValue) (l : IsLending w held x y)
    → HandsOver y held.stream job z
    → IsSomeAnd (slice_get l.stream_before.jobs 0) (λ first. job ≡ record first { scratch = job.scratch })
    × IsStarted l.stream_before.state.spec.chain l.stream_before.state.done job
handed_job x y z w held job l h =
    let same = (handed_stream x y z w held job l h).0 in
    (rw same at l.lent.job, rw same at l.lent.started)

new_held : (held : Held) → held.used ≡ 0
    → held ≡ (let h : Held = record { stream = held.stream; number = held.number; grant = held.grant; used = 0 } in h)
new_held held e = used_more held held.used 0 e

-- the lease leads on
given_led : (x y z : ScheduleValue) (w : ℕ) (held : Held) (job : JobValue) → slice_get x.workers w ≡ Some None
    → IsLending w held x y → HandsOver y held.stream job z
    → LeadsDesk x (one (Lease w) (Leased held.stream held.number held.grant)) z
given_led x y z w held job free l h =
    let new : z ≡ with_held w (Some held) (with_stream_at held.stream (given w l.stream_before) x) = handed x y z w held job l h in
    let same = new_held held l.none_used in
    led_one x z (Lease w) (Leased held.stream held.number held.grant)
    (lease_allowed measures_any is_any_image bare_frames x w held.stream held.number held.grant l.stream_before free
    l.earliest l.here l.number l.grant)
    (ap desk_state new
    ∙ ap (λ (h : Held). desk_state (with_held w (Some h) (with_stream_at held.stream (given w l.stream_before) x))) same
    ∙ led_lease Blank bare_frames x w held.stream held.number held.grant l.stream_before (given w l.stream_before) free
    l.here refl)

given_desk : (x y z : ScheduleValue) (w : ℕ) (held : Held) (job : JobValue) → IsDesk x
    → slice_get x.workers w ≡ Some None → IsLending w held x y → HandsOver y held.stream job z → IsDesk z
given_desk x y z w held job d free l h =
    let new : z ≡ with_held w (Some held) (with_stream_at held.stream (given w l.stream_before) x) = handed x y z w held job l h in
    let v : ScheduleValue = with_held w (Some held) (with_stream_at held.stream (given w l.stream_before) x) in
    let led : LeadsDesk x (one (Lease w) (Leased held.stream held.number held.grant)) v =
    subst (λ (z : ScheduleValue). LeadsDesk x (one (Lease w) (Leased held.stream held.number held.grant)) z) new
    (given_led x y z w held job free l h) in
    rw new (desk_on x v (one (Lease w) (Leased held.stream held.number held.grant)) d led
    (away_set x.streams held.stream (given w l.stream_before) d.away refl)
    (unused_more x.workers w held d.unused l.none_used))

-- what a lease may do is left of its job
pub given_left : (x y z : ScheduleValue) (w : ℕ) (held : Held) (job : JobValue) → IsDesk x
    → slice_get x.workers w ≡ Some None → IsLending w held x y → HandsOver y held.stream job z
    → (IsSome job.scratch) × (job.done + held.grant ≤ steps_of job.chain)
given_left x y z w held job d free l h =
    let new : z ≡ with_held w (Some held) (with_stream_at held.stream (given w l.stream_before) x) = handed x y z w held job l h in
    let own = (handed_job x y z w held job l h).1 in
    let stream = given w l.stream_before in
    let mine : slice_get z.workers w ≡ Some (Some held) =
    rw new (slice_get_set_same x.workers w (Some held) (slice_get_within x.workers w None free)) in
    let here : slice_get z.streams held.stream ≡ Some stream =
    rw new (slice_get_set_same x.streams held.stream stream
    (slice_get_within x.streams held.stream l.stream_before l.here)) in
    let left = (lease_of (desk_state z) w held (stream_by bare_frames stream)
    (given_desk x y z w held job d free l h).sound mine (stream_here bare_frames z held.stream stream here)).left in
    let all : steps_of job.chain ≡ steps l.stream_before.state.spec = rw own.of_chain (sym (steps_are l.stream_before.state.spec.chain)) in
    (own.started, omega (arith, left, all, own.steps, l.none_used))

gives : (x y z : ScheduleValue) (w : ℕ) (held : Held) (job : JobValue) (lease : LeaseValue)
    → IsLending w held x y → HandsOver y held.stream job z
    → lease ≡ granted_of job held.stream held.number held.grant → GivesJob w lease x z
gives x y z w held job lease l h e =
    let made : GivesJob w (granted_of job held.stream held.number held.grant) x z = record {
      stream = l.stream_before;
      here = l.here;
      number = l.number;
      none_used = refl;
      job = (handed_job x y z w held job l h).0;
      started = (handed_job x y z w held job l h).1;
      schedule = handed x y z w held job l h
          ∙ ap (λ (h : Held). with_held w (Some h) (with_stream_at held.stream (given w l.stream_before) x))
          (new_held held l.none_used);
    } in
    subst (λ (lease : LeaseValue). GivesJob w lease x z) (sym e) made

-- what is said of a lease that is given
abbrev pub Gives : (x z : ScheduleValue) (w : ℕ) → LeaseValue → Type 0
Gives x z w lease =
    LeadsDesk x (one (Lease w) (Leased lease.stream lease.number lease.granted)) z × GivesJob w lease x z × IsDesk z

pub given_away : (x y z : ScheduleValue) (w : ℕ) (held : Held) (job : JobValue) (lease : LeaseValue) → IsDesk x
    → slice_get x.workers w ≡ Some None → IsLending w held x y → HandsOver y held.stream job z
    → lease ≡ granted_of job held.stream held.number held.grant → Gives x z w lease
given_away x y z w held job lease d free l h e =
    let P : LeaseValue → Type 0 = λ lease.
    LeadsDesk x (one (Lease w) (Leased lease.stream lease.number lease.granted)) z in (
      subst P (sym e) (given_led x y z w held job free l h),
      gives x y z w held job lease l h e,
      given_desk x y z w held job d free l h,
    )
