-- The streams and what workers hold, as machine and desk keep them.
use Rattle.std.specs.Prelude.{ℕ, ◌≡◌, ◌≤◌, ◌<◌, ◌+◌, ◌^◌, nat_lt, List, [], ◌∷◌, ◌++◌, drop, map, replicate}
use Rattle.std.specs.Prelude.{slice_get, slice_set, Option, Some, None, IsSome, IsSomeAnd, MatchOption}
use Rattle.std.specs.Prelude.{if◌then◌else◌, length, sum_by}
use Rattle.cbs_account.specs.declared.limits.TheConstants.{LAST_MOMENT}
use Rattle.cbs_account.specs.Admission.{Load}
use Rattle.cbs_account.specs.Rules.{CanCharge}
use Rattle.edf_pool.specs.Earliest.{IsEarliest, NoneReady}
use Rattle.lease.specs.Job.{JobValue}
use Rattle.serve_core.specs.declared.collected.Collected.{Collected}
use Rattle.serve_core.specs.declared.counts.Counts.{Counts}
use Rattle.serve_core.specs.declared.held.Held.{Held}
use Rattle.serve_core.specs.declared.refusal.Refusal.{Refusal}
use Rattle.serve_core.specs.declared.refusal.Refusal.TheVariants as refusals
use Rattle.serve_core.specs.Counts.{Came, Lent, Shut, Taken, Worked, Back, Ended}
use Rattle.serve_core.specs.Released.{held_share}
use Rattle.serve_core.specs.Rules.{CanAdmit, RefusesAdmit, grant, lack}
use Rattle.serve_core.specs.Setup.{Setup, StreamSpec, steps}
use Rattle.serve_core.specs.States.{State, StreamState, did, next_cost, ready_deadline}
use Rattle.serve_core.specs.Streams.{IsPair, IsStarted, KeptStream, listed, opened, source_in, source_of}

pub record ScheduleValue : Type 0 where
  pub clock : ℕ
  pub quantum : ℕ
  -- each stream with its jobs and images
  pub streams : List KeptStream
  -- what each worker holds
  pub workers : List (Option Held)

-- the schedule of a setup before any event
abbrev pub opened_schedule : Setup → ScheduleValue
opened_schedule setup = record {
  clock = 0;
  quantum = setup.quantum;
  streams = map opened setup.streams;
  workers = replicate setup.workers None;
}

-- what is counted of a stream, with other frames
abbrev pub stream_by : {F : Type 0} → (KeptStream → List F) → KeptStream → StreamState F
stream_by frames stream = record {
  spec = stream.state.spec;
  accepted = stream.state.accepted;
  finished = stream.state.finished;
  collected = stream.state.collected;
  is_closed = stream.state.is_closed;
  charged = stream.state.charged;
  done = stream.state.done;
  holder = stream.state.holder;
  account = stream.state.account;
  frames = frames stream;
}

-- the state of a schedule, with these frames
abbrev pub state_by : {F : Type 0} → (KeptStream → List F) → ScheduleValue → State F
state_by frames x = record {
  clock = x.clock;
  quantum = x.quantum;
  streams = map (stream_by frames) x.streams;
  workers = x.workers;
}

-- the deadlines of the streams that are ready, by stream
abbrev pub ready_deadlines : List KeptStream → List (Option ℕ)
ready_deadlines streams = map (λ stream. ready_deadline stream.state) streams

-- the workers, and the shares that their streams hold
abbrev pub held_of_streams : (workers clock : ℕ) → List KeptStream → Load
held_of_streams workers clock streams =
    record { workers = workers; shares = sum_by (λ stream. held_share clock stream.state) streams }

abbrev pub held_by : ScheduleValue → Load
held_by x = held_of_streams (length x.workers) x.clock x.streams

-- how a schedule answers a stream that is to be admitted, want of memory aside: by a refusal, or by none
abbrev pub IsAdmitAnswer : ScheduleValue → StreamSpec → Option Refusal → Type 0
IsAdmitAnswer x spec None = CanAdmit (length x.streams) (held_by x) spec
IsAdmitAnswer x spec (Some refusals.NoMemory) = ⊥
IsAdmitAnswer x spec (Some e) = RefusesAdmit (length x.streams) (held_by x) spec e

-- one stream more, behind all others
abbrev pub with_stream : StreamSpec → ScheduleValue → ScheduleValue
with_stream spec x = record x { streams = x.streams ++ opened spec ∷ [] }

-- stream s is there, and so it is
abbrev pub HasStream : ScheduleValue → ℕ → (KeptStream → Type 0) → Type 0
HasStream x s P = IsSomeAnd (slice_get x.streams s) P

abbrev pub with_stream_at : ℕ → KeptStream → ScheduleValue → ScheduleValue
with_stream_at s stream x = record x { streams = slice_set x.streams s stream }

abbrev pub with_held : ℕ → Option Held → ScheduleValue → ScheduleValue
with_held w held x = record x { workers = slice_set x.workers w held }

abbrev pub HasLease : ScheduleValue → ℕ → Held → Type 0
HasLease x w held = slice_get x.workers w ≡ Some (Some held)

-- why the clock can't go on to a moment, if it can't
abbrev pub tick_refusal : (clock to : ℕ) → Option Refusal
tick_refusal clock to =
    if nat_lt to clock then Some refusals.Past
    else if nat_lt LAST_MOMENT to then Some refusals.ClockEnd
    else None

-- why worker w gets no lease
abbrev pub RefusesLease : ScheduleValue → ℕ → Refusal → Type 0
RefusesLease x w e =
    MatchOption (slice_get x.workers w) (e ≡ refusals.NoWorker) (λ held. MatchOption held
    ((e ≡ refusals.NoneReady) × NoneReady (ready_deadlines x.streams)) (λ l. e ≡ refusals.Busy))

-- why stream s gives no image
abbrev pub RefusesCollect : ScheduleValue → ℕ → Refusal → Type 0
RefusesCollect x s e =
    MatchOption (slice_get x.streams s) (e ≡ refusals.NoStream) (λ stream.
    (stream.state.finished ≤ stream.state.collected) × (e ≡ lack stream.state))

-- a stream after what happened to it
abbrev pub stream_offered : ℕ → JobValue → KeptStream → KeptStream
stream_offered t job stream = record stream {
  state = did stream.state (Came t (source_of job));
  jobs = stream.jobs ++ job ∷ [];
}

abbrev pub stream_lent : ℕ → Option JobValue → KeptStream → KeptStream
stream_lent w job stream = record stream {
  state = did stream.state (Lent w);
  leased = job;
  jobs = drop 1 stream.jobs;
}

abbrev pub stream_worked : Option JobValue → KeptStream → KeptStream
stream_worked job stream = record stream { state = did stream.state Worked; leased = job }

abbrev pub stream_returned : KeptStream → KeptStream
stream_returned stream = record stream {
  state = did stream.state Back;
  leased = None;
  jobs = listed stream.leased ++ stream.jobs;
}

abbrev pub stream_finished : List Collected → KeptStream → KeptStream
stream_finished images stream =
    record stream { state = did stream.state Ended; leased = None; images = images }

abbrev pub stream_closed : KeptStream → KeptStream
stream_closed stream = record stream { state = did stream.state Shut }

abbrev pub stream_collected : KeptStream → KeptStream
stream_collected stream = record stream { state = did stream.state Taken; images = drop 1 stream.images }

-- the first image that isn't collected, with its frame
pub record IsFirst (pair : Collected) (stream : KeptStream) : Type 0 where
  pub first : slice_get stream.images 0 ≡ Some pair
  pub frame : slice_get stream.state.frames 0 ≡ Some (source_in pair)
  pub image : IsPair stream.state.spec.chain pair
  pub less : stream.state.collected < stream.state.finished

-- the front job of the stream is out, started
pub record IsLent (w : ℕ) (old new : KeptStream) : Type 0 where
  pub stream : new ≡ stream_lent w new.leased old
  pub job : IsSomeAnd new.leased (λ job. IsSomeAnd (slice_get old.jobs 0) (λ first.
      job ≡ record first { scratch = job.scratch }))
  pub started : IsSomeAnd new.leased (IsStarted old.state.spec.chain old.state.done)

-- worker w is lent the front job of the stream with the earliest deadline
pub record IsLending (w : ℕ) (held : Held) (old new : ScheduleValue) : Type 0 where
  pub earliest : IsEarliest (ready_deadlines old.streams) held.stream
  pub stream_before : KeptStream
  pub stream_after : KeptStream
  pub here : slice_get old.streams held.stream ≡ Some stream_before
  pub number : held.number ≡ stream_before.state.finished
  pub grant : held.grant ≡ grant old.quantum stream_before.state
  pub none_used : held.used ≡ 0
  pub lent : IsLent w stream_before stream_after
  pub schedule : new ≡ with_held w (Some held) (with_stream_at held.stream stream_after old)

-- the job that is out can do one band more, which can be charged
pub record CanStep (stream : KeptStream) : Type 0 where
  pub leased : IsSome stream.leased
  pub left : stream.state.done < steps stream.state.spec
  pub charge : CanCharge (next_cost stream.state) stream.state.account
  pub few : stream.state.charged + next_cost stream.state < 2 ^ 64

-- the budget and the deadline of a stream
abbrev pub account_of : {F : Type 0} → StreamState F → ℕ × ℕ
account_of x = (x.account.budget, x.account.deadline)

abbrev pub counts_of : {F : Type 0} → StreamState F → Counts
counts_of x = record {
  accepted = x.accepted;
  finished = x.finished;
  collected = x.collected;
  charged = x.charged;
}
