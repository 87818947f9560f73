-- A stream as the schedule keeps it: its state, its jobs and its images.
use Rattle.std.specs.Prelude.{◌≡◌, ◌+◌, ◌<◌, ℕ, ⊤, Bool, true, false, List, [], ◌∷◌, ◌++◌, map, Option, Some}
use Rattle.std.specs.Prelude.{None, IsFalse, IsSome, IsTrue}
use Rattle.std.specs.Arc.{arc_value}
use Rattle.std.specs.List.{AllByRecursion}
use Rattle.frame_view.specs.declared.frame.Frame.{Frame}
use Rattle.row_bands.specs.declared.canvas.Canvas.{Canvas}
use Rattle.filters.specs.Chain.{ChainValue, format_of, last_format}
use Rattle.filters.specs.ChainImage.{FrameValue, IsChainImage, value_of}
use Rattle.lease.specs.Canvases.{IsScratch}
use Rattle.lease.specs.Job.{JobValue}
use Rattle.serve_core.specs.declared.collected.Collected.{Collected}
use Rattle.serve_core.specs.Setup.{StreamSpec}
use Rattle.serve_core.specs.States.{StreamState, stream_of}

pub record KeptStream : Type 0 where
  -- its frames are those of the jobs and the images that are here: a job that was handed over lacks
  pub state : StreamState FrameValue
  -- the job that is out, unless it was handed over
  pub leased : Option JobValue
  -- the jobs behind it that aren't finished
  pub jobs : List JobValue
  -- the finished frames that aren't collected
  pub images : List Collected

-- a stream that has had no frame
abbrev pub opened : StreamSpec → KeptStream
opened spec = record { state = stream_of spec []; leased = None; jobs = []; images = [] }

abbrev pub listed : Option JobValue → List JobValue
listed None = []
listed (Some job) = job ∷ []

abbrev pub source_of : JobValue → FrameValue
source_of job = value_of job.source

abbrev pub source_in : Collected → FrameValue
source_in pair = value_of (arc_value pair.source)

-- the frames that are here, from the first that isn't collected on
abbrev pub frames_here : List Collected → Option JobValue → List JobValue → List FrameValue
frames_here images leased jobs = map source_in images ++ map source_of (listed leased ++ jobs)

-- the stream with this job out, or with none
abbrev pub with_leased : Option JobValue → KeptStream → KeptStream
with_leased leased stream = record stream {
  state = record stream.state { frames = frames_here stream.images leased stream.jobs };
  leased = leased;
}

-- what waits for collection is a frame with its image by the chain
abbrev pub IsPair : ChainValue → Collected → Type 0
IsPair chain pair = IsChainImage chain.ops (source_in pair) (value_of pair.image)

-- a job of the chain that no step is done of
pub record IsFresh (chain : ChainValue) (job : JobValue) : Type 0 where
  pub of_chain : job.chain ≡ chain
  pub waits : job.scratch ≡ None
  pub done : job.done ≡ 0

-- a started job of the chain with these steps done
pub record IsStarted (chain : ChainValue) (done : ℕ) (job : JobValue) : Type 0 where
  pub of_chain : job.chain ≡ chain
  pub steps : job.done ≡ done
  pub started : IsSome job.scratch

-- the scratch is with the stream, or with its job, which has started
abbrev pub IsWithOne : ChainValue → Option (List Canvas) → Option (List Canvas) → Type 0
IsWithOne chain (Some canvases) None = IsScratch chain canvases
IsWithOne chain None (Some canvases) = ⊤
IsWithOne chain its_own jobs_own = ⊥

-- where no job is out: the first has these steps done, and no other any
abbrev pub AreWaiting : ChainValue → ℕ → Option (List Canvas) → List JobValue → Type 0
AreWaiting chain done scratch [] = (done ≡ 0) × IsWithOne chain scratch None
AreWaiting chain done scratch (job ∷ jobs) =
    (job.chain ≡ chain) × (job.done ≡ done) × IsWithOne chain scratch job.scratch
    × AllByRecursion (IsFresh chain) jobs

-- the jobs that are not out, one being out or not
abbrev pub AreHere : Bool → ChainValue → ℕ → Option (List Canvas) → List JobValue → Type 0
AreHere true chain done scratch jobs = (scratch ≡ None) × AllByRecursion (IsFresh chain) jobs
AreHere false chain done scratch jobs = AreWaiting chain done scratch jobs

-- a job that is out and wasn't handed over
abbrev pub IsLeased : Bool → ChainValue → ℕ → Option JobValue → Type 0
IsLeased out chain done None = ⊤
IsLeased out chain done (Some job) = (out ≡ true) × IsStarted chain done job

-- one frame more can be accepted
pub record HasPlace (x : StreamState FrameValue) : Type 0 where
  pub not_closed : IsFalse x.is_closed
  pub few : x.accepted < x.spec.frames
  pub places : x.accepted < x.finished + x.spec.queue

-- the stream is closed, and all its frames are finished
pub record IsOver (stream : KeptStream) : Type 0 where
  pub closed : IsTrue stream.state.is_closed
  pub finished : stream.state.finished ≡ stream.state.accepted

-- a frame of the size of the chain's images
abbrev pub IsImageOf : ChainValue → Frame → Type 0
IsImageOf chain image = format_of image.geometry ≡ last_format chain.ops (format_of chain.geometry)

-- the images are those that were there, and then that of the job's source
pub record GainsImage (job : JobValue) (old new : List Collected) : Type 0 where
  pub pair : Collected
  pub source : arc_value pair.source ≡ job.source
  pub behind : new ≡ old ++ pair ∷ []
