-- What a machine is made for, and the limits of its numbers.
use Rattle.std.specs.Prelude.{ℕ, Bool, ◌≡◌, ◌≤◌, All, List, length, map, sum}
use Rattle.stream_queue.specs.declared.limits.TheConstants.{MOST_PLACES}
use Rattle.cbs_account.specs.declared.limits.TheConstants.{MOST_QUANTUM, MOST_STREAMS, MOST_WORKERS}
use Rattle.cbs_account.specs.Admission.{Load, Reservation, load_of}
use Rattle.cbs_account.specs.Admission as admission
use Rattle.cbs_account.specs.Balance.{IsBandwidth}
use Rattle.filters.specs.Chain.{ChainValue}
use Rattle.filters.specs.Costs.{step_costs}
use Rattle.frame_view.specs.declared.geometry.Geometry.{Geometry}
use Rattle.filters.specs.declared.limits.TheConstants.{MOST_COST}
use Rattle.y4m_header.specs.declared.limits.TheConstants.{MOST_FRAMES}

-- what a stream is served with
pub record StreamSpec : Type 0 where
  -- the size of its frames, and the chain that filters them
  pub geometry : Geometry
  pub chain : ChainValue
  -- Q and T of its account: Q units in every T moments
  pub maximum : ℕ
  pub period : ℕ
  -- how many frames may be unfinished, how many finished ones uncollected, and how many may come at all
  pub queue : ℕ
  pub outbox : ℕ
  pub frames : ℕ

-- how a test of a frame's size may come out: in one way, or in both where the frame is left unread
abbrev pub SizeTest : Type 0 → Type 1
SizeTest F = (spec : StreamSpec) (frame : F) (is_sized : Bool) → Type 0

-- whether an image is that of a frame
abbrev pub ImageRelation : Type 0 → Type 0 → Type 1
ImageRelation F G = (spec : StreamSpec) (source : F) (image : G) → Type 0

-- the workers, the most bands of one lease, and the streams, numbered from 0
pub record Setup : Type 0 where
  pub workers : ℕ
  pub quantum : ℕ
  pub streams : List StreamSpec

abbrev pub setup_of : ℕ → ℕ → List StreamSpec → Setup
setup_of workers quantum streams = record { workers = workers; quantum = quantum; streams = streams }

-- what each step of a frame costs; a step is one band of one operation
abbrev pub costs : StreamSpec → List ℕ
costs spec = step_costs spec.chain

abbrev pub steps : StreamSpec → ℕ
steps spec = length (costs spec)

-- what a frame costs
abbrev pub cost : StreamSpec → ℕ
cost spec = sum (costs spec)

-- the numbers of a stream, but those of its account, are within their limits, and its chain is for its frames
pub record IsWithinLimits (spec : StreamSpec) : Type 0 where
  pub geometry : spec.chain.geometry ≡ spec.geometry
  pub some_steps : 1 ≤ steps spec
  pub cost : cost spec ≤ MOST_COST
  pub some_places : 1 ≤ spec.queue
  pub places : spec.queue ≤ MOST_PLACES
  pub some_room : 1 ≤ spec.outbox
  pub room : spec.outbox ≤ MOST_PLACES
  pub some_frames : 1 ≤ spec.frames
  pub frames : spec.frames ≤ MOST_FRAMES

-- the numbers of a setup, but those of the streams' accounts, are within their limits
pub record HasLimits (setup : Setup) : Type 0 where
  pub some_workers : 1 ≤ setup.workers
  pub workers : setup.workers ≤ MOST_WORKERS
  pub some_quantum : 1 ≤ setup.quantum
  pub quantum : setup.quantum ≤ MOST_QUANTUM
  pub some_streams : 1 ≤ length setup.streams
  pub streams : length setup.streams ≤ MOST_STREAMS
  pub each : All IsWithinLimits setup.streams

abbrev pub HasBandwidth : StreamSpec → Type 0
HasBandwidth spec = IsBandwidth spec.maximum spec.period

-- all numbers of a setup are within their limits
pub record IsWithin (setup : Setup) : Type 0 where
  pub limits : HasLimits setup
  pub bandwidths : All HasBandwidth setup.streams

abbrev pub reservation_of : StreamSpec → Reservation
reservation_of spec = record { maximum = spec.maximum; period = spec.period }

-- what these streams ask of so many workers
abbrev pub load : ℕ → List StreamSpec → Load
load workers streams = load_of workers (map reservation_of streams)

-- the shares of all streams are at most the whole of the workers
abbrev pub Fits : Setup → Type 0
Fits setup = admission.Fits (load setup.workers setup.streams)

-- all numbers are within their limits, and the streams fit
abbrev pub IsSetup : Setup → Type 0
IsSetup setup = IsWithin setup × Fits setup
