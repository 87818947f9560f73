-- The calls of a desk: jobs that are out are with their leases, and a lease's bands are charged where it is
-- settled.
use Rattle.std.specs.Prelude.{ℕ, ◌≡◌, ◌≢◌, ◌≤◌, ◌<◌, ◌+◌, ◌-◌, ◌^◌, ◌↔◌, ◌⊎◌, max, nat_lt, Bool, true}
use Rattle.std.specs.Prelude.{IsTrue, List, replicate, slice_get, Option, Some, None, IsSome, IsSomeAnd}
use Rattle.std.specs.Prelude.{MatchBool, MatchOption, if◌then◌else◌}
use Rattle.cbs_account.specs.declared.limits.TheConstants.{LAST_MOMENT}
use Rattle.cbs_account.specs.Rules.{CanCharge}
use Rattle.edf_pool.specs.Earliest.{IsEarliest}
use Rattle.frame_view.specs.declared.frame.Frame.{Frame}
use Rattle.frame_view.specs.declared.geometry.Geometry.{Geometry}
use Rattle.lease.specs.Job.{JobValue}
use Rattle.lease.specs.Lease.{LeaseValue}
use Rattle.serve_core.specs.declared.collected.Collected.{Collected}
use Rattle.serve_core.specs.declared.held.Held.{Held}
use Rattle.serve_core.specs.declared.refusal.Refusal.{Refusal}
use Rattle.serve_core.specs.declared.refusal.Refusal.TheVariants as refusals
use Rattle.serve_core.specs.AtOnce.{bands_settled, cost_of_next, worked_at_once}
use Rattle.serve_core.specs.Bare.{Blank, measures_any, is_any_image}
use Rattle.serve_core.specs.Events.{Event, Arrive, Tick, Reply, Accepted, Returned, Finished, Ticked}
use Rattle.serve_core.specs.Events.{Transcript, Start, Then}
use Rattle.serve_core.specs.Leads.{Leads}
use Rattle.serve_core.specs.Rules.{arrival_refusal}
use Rattle.serve_core.specs.Schedule.{HasStream, IsAdmitAnswer, ScheduleValue, ready_deadlines, state_by}
use Rattle.serve_core.specs.Schedule.{stream_finished, stream_lent, stream_offered, stream_returned}
use Rattle.serve_core.specs.Schedule.{with_held, with_stream_at}
use Rattle.serve_core.specs.Setup.{StreamSpec, steps}
use Rattle.serve_core.specs.States.{State}
use Rattle.serve_core.specs.Streams.{GainsImage, IsFresh, IsStarted, KeptStream, with_leased}

abbrev pub blanks : ℕ → List Blank
blanks n = replicate n tt

-- a blank for each accepted frame that isn't collected
abbrev pub bare_frames : KeptStream → List Blank
bare_frames stream = blanks (stream.state.accepted - stream.state.collected)

-- the bare summary of what a desk keeps
abbrev pub desk_state : ScheduleValue → State Blank
desk_state x = state_by bare_frames x

-- a bare transcript leads from what a desk kept to what it keeps
abbrev pub LeadsDesk : ScheduleValue → Transcript Blank Blank → ScheduleValue → Type 0
LeadsDesk old p new = Leads measures_any is_any_image (desk_state old) p (desk_state new)

-- a single event with its reply
abbrev pub one : Event Blank → Reply Blank Blank → Transcript Blank Blank
one e r = Then Start e r

-- the clock goes on to a moment, if that is later
abbrev pub ticked : (clock at : ℕ) → Transcript Blank Blank
ticked clock at = if nat_lt clock at then Then Start (Tick at) Ticked else Start

-- and then a frame is accepted by stream s, with its number
abbrev pub offered : (clock s at number : ℕ) → Transcript Blank Blank
offered clock s at number = Then (ticked clock at) (Arrive s tt) (Accepted number)

-- the bands of a lease, and then its settlement, which finishes a frame or none
abbrev pub settlement : (w bands : ℕ) → Option ℕ → Transcript Blank Blank
settlement w bands None = bands_settled w bands Returned
settlement w bands (Some number) = bands_settled w bands (Finished number)

-- why a stream that may be there refuses a frame of its size
abbrev pub stream_refusal : Option KeptStream → Option Refusal
stream_refusal None = Some refusals.NoStream
stream_refusal (Some stream) = arrival_refusal true stream.state

-- why an offered job is refused, if it is
abbrev pub job_refusal : ScheduleValue → (s at : ℕ) → Option Refusal
job_refusal x s at =
    if nat_lt LAST_MOMENT at then Some refusals.ClockEnd else stream_refusal (slice_get x.streams s)

-- how a stream answers a frame of this geometry, want of memory aside: by a refusal, or by none
abbrev pub IsArrivalAnswer : ScheduleValue → ℕ → Geometry → Option Refusal → Type 0
IsArrivalAnswer x s geometry answer =
    MatchOption (slice_get x.streams s) (answer ≡ Some refusals.NoStream) (λ stream.
    (is_sized : Bool) × (IsTrue is_sized ↔ (geometry ≡ stream.state.spec.geometry))
    × (answer ≡ arrival_refusal is_sized stream.state))

-- and how a desk answers it at a moment
abbrev pub IsOfferAnswer : ScheduleValue → (s at : ℕ) → Geometry → Option Refusal → Type 0
IsOfferAnswer x s at geometry answer =
    MatchBool (nat_lt LAST_MOMENT at) (answer ≡ Some refusals.ClockEnd) (IsArrivalAnswer x s geometry answer)

-- the job is fresh, and of stream s, if that is there
abbrev pub IsFreshFor : ScheduleValue → ℕ → JobValue → Type 0
IsFreshFor x s job =
    (stream : KeptStream) → slice_get x.streams s ≡ Some stream → IsFresh stream.state.spec.chain job

-- at moment at, or at the clock if that is later, stream s takes the job behind all others
abbrev pub TakesJob : (s at : ℕ) → JobValue → (number : ℕ) → (old new : ScheduleValue) → Type 0
TakesJob s at job number old new =
    let clock = max old.clock at in
    HasStream old s (λ stream. (number ≡ stream.state.accepted)
    × (new ≡ with_stream_at s (stream_offered clock job stream) (record old { clock = clock })))

-- and so it takes a job of this frame
abbrev pub TakesFrame : (s at : ℕ) → Frame → (number : ℕ) → (old new : ScheduleValue) → Type 0
TakesFrame s at frame number old new = (job : JobValue) × (job.source ≡ frame) × IsFreshFor old s job
    × TakesJob s at job number old new

-- why an offer of a frame is refused
abbrev pub RefusesOffer : ScheduleValue → (s at : ℕ) → Geometry → Refusal → Type 0
RefusesOffer x s at geometry e =
    IsOfferAnswer x s at geometry (Some e)
    ⊎ (e ≡ refusals.NoMemory) × IsOfferAnswer x s at geometry None

-- why a stream isn't admitted
abbrev pub RefusesAdmission : ScheduleValue → StreamSpec → Refusal → Type 0
RefusesAdmission x spec e =
    IsAdmitAnswer x spec (Some e) ⊎ (e ≡ refusals.NoMemory) × IsAdmitAnswer x spec None

-- a stream is ready
abbrev pub SomeReady : ScheduleValue → Type 0
SomeReady x = (s : ℕ) × IsEarliest (ready_deadlines x.streams) s

-- what a worker holds with a lease
abbrev pub held_of : LeaseValue → Held
held_of lease = record {
  stream = lease.stream;
  number = lease.number;
  grant = lease.granted;
  used = lease.used;
}

-- the stream without its front job, which worker w has
abbrev pub given : ℕ → KeptStream → KeptStream
given w stream = with_leased None (stream_lent w None stream)

-- the front job of the lease's stream is given away with the lease
pub record GivesJob (w : ℕ) (lease : LeaseValue) (old new : ScheduleValue) : Type 0 where
  pub stream : KeptStream
  pub here : slice_get old.streams lease.stream ≡ Some stream
  pub number : lease.number ≡ stream.state.finished
  pub none_used : lease.used ≡ 0
  pub job : IsSomeAnd (slice_get stream.jobs 0) (λ first.
      lease.job ≡ record first { scratch = lease.job.scratch })
  pub started : IsStarted stream.state.spec.chain stream.state.done lease.job
  pub schedule : new ≡ with_held w (Some (held_of lease)) (with_stream_at lease.stream (given w stream) old)

-- what a worker holds is this lease, with a job of the stream that has its bands and those of the lease done
pub record IsRecorded (lease : LeaseValue) (held : Held) (its : KeptStream) : Type 0 where
  pub stream : lease.stream ≡ held.stream
  pub number : lease.number ≡ held.number
  pub grant : lease.granted ≡ held.grant
  pub chain : lease.job.chain ≡ its.state.spec.chain
  pub done : lease.job.done ≡ its.state.done + lease.used

-- where worker w holds a lease, it is this one
abbrev pub IsHeldBy : ScheduleValue → ℕ → LeaseValue → Type 0
IsHeldBy x w lease = (held : Held) (stream : KeptStream) → slice_get x.workers w ≡ Some (Some held)
    → slice_get x.streams held.stream ≡ Some stream → IsRecorded lease held stream

-- why there is nothing to settle
abbrev pub RefusesSettle : ScheduleValue → ℕ → Refusal → Type 0
RefusesSettle x w e =
    MatchOption (slice_get x.workers w) (e ≡ refusals.NoWorker) (λ held.
    (held ≡ None) × (e ≡ refusals.NoLease))

-- why a stream isn't closed
abbrev pub RefusesClose : ScheduleValue → ℕ → Refusal → Type 0
RefusesClose x s e =
    MatchOption (slice_get x.streams s) (e ≡ refusals.NoStream) (λ stream.
    IsTrue stream.state.is_closed × (e ≡ refusals.AlreadyClosed))

-- the stream with this job out, which did these bands
abbrev pub brought_by : JobValue → (bands : ℕ) → KeptStream → KeptStream
brought_by job bands stream =
    with_leased (Some job) (record stream { state = worked_at_once bands stream.state })

-- the stream with the lease's job and bands
abbrev pub brought : LeaseValue → KeptStream → KeptStream
brought lease stream = brought_by lease.job lease.used stream

-- the job was handed over of this stream, and did these bands, whose units can be charged
pub record CanBring (job : JobValue) (bands units : ℕ) (stream : KeptStream) : Type 0 where
  pub out : IsSome stream.state.holder
  pub away : stream.leased ≡ None
  pub started : IsStarted stream.state.spec.chain (stream.state.done + bands) job
  pub left : stream.state.done + bands ≤ steps stream.state.spec
  pub cost : units ≡ cost_of_next bands stream.state
  pub charge : CanCharge units stream.state.account
  pub few : stream.state.charged + units < 2 ^ 64

-- the lease's job is at the front of its stream again
pub record TakesBack (w : ℕ) (lease : LeaseValue) (old new : ScheduleValue) : Type 0 where
  pub stream : KeptStream
  pub here : slice_get old.streams lease.stream ≡ Some stream
  pub left : stream.state.done + lease.used ≢ steps stream.state.spec
  pub schedule : new ≡ with_held w None
      (with_stream_at lease.stream (stream_returned (brought lease stream)) old)

-- all steps of the lease's job are done: its source and image are the last of its stream's images
pub record TakesImage (w : ℕ) (lease : LeaseValue) (number : ℕ) (old new : ScheduleValue) : Type 0 where
  pub stream : KeptStream
  pub here : slice_get old.streams lease.stream ≡ Some stream
  pub all : stream.state.done + lease.used ≡ steps stream.state.spec
  pub first : number ≡ stream.state.finished
  pub images : List Collected
  pub gains : GainsImage lease.job stream.images images
  pub schedule : new ≡ with_held w None
      (with_stream_at lease.stream (stream_finished images (brought lease stream)) old)
