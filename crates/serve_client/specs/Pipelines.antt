-- What contracts say of a client's pipeline.
use Rattle.std.specs.Prelude.{ℕ, ◌≡◌, List, Option, Some, None, IfSome}
use Rattle.y4m_stream.specs.declared.reader.Phase.TheVariants.{Open}
use Rattle.y4m_stream.specs.Reader.{IsOfHeader, ReaderState}
use Rattle.y4m_stream.specs.Writer.{IsWriterFor, WriterState}
use Rattle.serve_core.specs.declared.collected.Collected.{Collected}
use Rattle.serve_hub.specs.declared.entry.Act.{Act}
use Rattle.serve_hub.specs.Seats.{StreamSeatValue}
use Rattle.serve_client.specs.declared.course.Course.{Course}
use Rattle.serve_client.specs.declared.feeding.Fed.{Fed}
use Rattle.serve_client.specs.declared.pipeline.Pipeline.{Pipeline}
use Rattle.serve_client.specs.declared.serving.Step.{Step}
use Rattle.serve_client.specs.ClientInside.{Accounted, AllowsFed, AreBuffersFor, FeedsOn, HasPassed}
use Rattle.serve_client.specs.ClientInside.{IsCounted}
use Rattle.serve_client.specs.ClientInside.{IsSizedFed, KeepsAllowed, KeepsFault, KeepsMoments, Tallies}
use Rattle.serve_client.specs.ClientInside.{fed_image}
use Rattle.serve_client.specs.Hands.{counted_with}
use Rattle.serve_client.specs.Rests.{CanGoOn, Comes, HasMemoryAt, IsBefore, IsOutset, IsSilent, Outset}
use Rattle.serve_client.specs.Rests.{course_stop_before, image_before, step_image, step_stop}

-- what is needed to offer a frame
pub record CanOffer {L R W : Type 0} (pipeline : Pipeline L R W) : Type 0 where
  pub size : IsWriterFor pipeline.seat.chain pipeline.writer
  pub accounted : Accounted pipeline.seat pipeline.writer
  pub memory : AreBuffersFor pipeline.seat.chain pipeline.buffers

-- what is needed to read on
pub record CanReadOn {L R W : Type 0} (pipeline : Pipeline L R W) : Type 0 where
  pub header : IsOfHeader pipeline.reader.header pipeline.seat.chain.geometry
  pub is_open : pipeline.reader.phase ≡ Open
  pub offer : CanOffer pipeline

-- some frames passed through, and the reader is open
abbrev pub PassesOn : {L R W : Type 0} → (old new : Pipeline L R W) → Type 0
PassesOn old new = HasPassed old.reader new.reader old.seat new.seat old.writer new.writer

-- why no more frames are fed, and what passed of those that this reader had before
abbrev pub StopsFeeding : {L R W : Type 0} → Fed → List Act → (before : ReaderState)
    → (old new : Pipeline L R W) → Type 0
StopsFeeding fed past before old new =
    FeedsOn fed past before new.reader old.seat new.seat old.writer new.writer

-- the image in hand where feeding stopped, if there is one
abbrev pub fed_image_in : Option Fed → Option Collected
fed_image_in None = None
fed_image_in (Some fed) = fed_image fed

-- what is known of a client that fed its seat, and stopped so, if it did
pub record HasFed {L R W : Type 0} (Gives : ℕ → Type 0) (fed : Option Fed) (old new : Pipeline L R W)
    : Type 0 where
  pub tally : Tallies old.seat new.seat old.writer (counted_with (fed_image_in fed) new.writer)
  pub moments : KeepsMoments Gives old.seat new.seat
  pub stop : IfSome fed (AllowsFed Gives)
  pub memory : AreBuffersFor old.seat.chain new.buffers
  pub frame : IfSome fed (IsSizedFed old.seat.chain new.writer)
  pub header : new.reader.header ≡ old.reader.header

-- what is needed to go on with this course
abbrev pub CanFollow : {L R W : Type 0} → Option Course → Pipeline L R W → Type 0
CanFollow course pipeline = CanGoOn course pipeline.reader pipeline.seat pipeline.writer pipeline.buffers

-- a client went on with this course from where it was, until it was done or the journal was full
pub record FollowsFrom {L R W : Type 0} (Was : List Act → Outset → ReaderState → StreamSeatValue → WriterState → Type 0)
    (Gives : ℕ → Type 0) (course : Option Course) (old new : Pipeline L R W) (step : Step) : Type 0 where
  pub answer : (past : List Act) (o : Outset) → IsOutset o → IsCounted past old.seat
      → Was past o old.reader old.seat old.writer
      → Comes step past o new.reader new.seat new.writer
  pub tally : Tallies old.seat new.seat (counted_with (image_before course) old.writer)
      (counted_with (step_image step) new.writer)
  pub silent : IsSilent course → (step_image step ≡ None) × (new.writer ≡ old.writer)
  pub moments : KeepsMoments Gives old.seat new.seat
  pub stop : KeepsAllowed Gives (course_stop_before course) (step_stop step)
  pub fault : KeepsFault (course_stop_before course) (step_stop step)
  pub memory : HasMemoryAt new.reader new.writer new.buffers step
  pub header : new.reader.header ≡ old.reader.header

-- the same, from where the course begins
abbrev pub Follows : {L R W : Type 0} → (Gives : ℕ → Type 0) → Option Course → (old new : Pipeline L R W) → Step → Type 0
Follows Gives course old new step = FollowsFrom (IsBefore course) Gives course old new step
