-- What went out of a stream where its client stops.
use Rattle.std.specs.Prelude.{ℕ, ◌+◌, ◌≡◌, ◌≢◌, ◌⊎◌, true, false, List, ◌∷◌, ◌++◌, Result, Err, Option, Some}
use Rattle.std.specs.Prelude.{None, IsSome, length}
use Rattle.std.specs.Io.KnownBytes.{Appends}
use Rattle.y4m_header.specs.StreamText.{FrameText, frames_text}
use Rattle.filters.specs.Chain.{ChainValue}
use Rattle.y4m_stream.specs.declared.fault.WriteFault.{WriteFault}
use Rattle.y4m_stream.specs.Reader.{ReaderState}
use Rattle.y4m_stream.specs.Served.{AreImages, IsImageText}
use Rattle.y4m_stream.specs.Writer.{FailsToPut, WriterState}
use Rattle.serve_core.specs.declared.collected.Collected.{Collected}
use Rattle.serve_hub.specs.declared.entry.Act.{Act}
use Rattle.serve_hub.specs.Seats.{StreamSeatValue}
use Rattle.serve_client.specs.declared.stop.Cause.TheVariants as causes
use Rattle.serve_client.specs.declared.stop.Stop.{Stop}
use Rattle.serve_client.specs.declared.stop.Stop.TheVariants.{Whole, Write, Refused, Torn}
use Rattle.serve_client.specs.Clients.{ClientProgress, ClientStopsAt, IsDrained}
use Rattle.serve_client.specs.ClientInside.{IsFirst, StopsReadingAt}

-- the images of the first of these frames went out, whole
pub record GoesOut (chain : ChainValue) (frames : List FrameText) (writer writer' : WriterState)
    : Type 0 where
  pub sent : List FrameText
  pub later : List FrameText
  pub images : List FrameText
  pub first : frames ≡ sent ++ later
  pub made : AreImages chain sent images
  pub wrote : Appends writer.contents writer'.contents (frames_text images)
  pub bytes : writer'.bytes ≡ writer.bytes + length (frames_text images)
  pub frames_out : writer'.frames ≡ writer.frames + length sent

-- the images of the first of these frames went out, whole, and nothing failed
pub record SendsWhole (chain : ChainValue) (frames : List FrameText) (writer writer' : WriterState)
    : Type 0 where
  pub out : GoesOut chain frames writer writer'
  pub writing : writer'.failed ≡ false
  pub no_failure : writer'.failures ≡ writer.failures

-- the same, and the image of the next frame didn't go out whole
pub record BreaksOff (chain : ChainValue) (frames : List FrameText) (writer writer' : WriterState)
    (fault : WriteFault) : Type 0 where
  pub between : WriterState
  pub whole : SendsWhole chain frames writer between
  pub next : FrameText
  pub later : List FrameText
  pub oldest : whole.out.later ≡ next ∷ later
  pub image : FrameText
  pub made : IsImageText chain next image
  pub cut : FailsToPut between writer' image fault

-- what went out until a client stopped: a write fault is its stop, but where another came first
abbrev pub IsSent : Stop → ChainValue → List FrameText → WriterState → WriterState → Type 0
IsSent stop chain frames writer writer' =
    SendsWhole chain frames writer writer' × ((fault : WriteFault) → stop ≢ Write fault)
    ⊎ ((fault : WriteFault) × BreaksOff chain frames writer writer' fault
    × ((f : WriteFault) → stop ≡ Write f → f ≡ fault))

-- nothing more is written: a write failed, or an answer was told Torn
abbrev pub IsSpoilt : WriterState → StreamSeatValue → Type 0
IsSpoilt writer seat = (writer.failed ≡ true) ⊎ IsSome seat.torn

-- a stream's frames, why there are no more, and what went out
pub record ServesTo (StopsAt : Stop → ClientProgress → Type 0) (past : List Act) (stop : Stop)
    (reader reader' : ReaderState) (seat seat' : StreamSeatValue) (writer writer' : WriterState)
    : Type 0 where
  pub frames : List FrameText
  pub read : StopsReadingAt StopsAt past stop reader reader' seat seat' frames
  pub count : seat'.accepted ≡ seat.accepted + length frames
  pub sent : IsSent stop seat.chain frames writer writer'
  pub torn : stop ≡ Torn → IsSome seat'.torn
  -- no image is thrown away before that: each went out, or is kept by the seat
  pub kept : IsSpoilt writer' seat' ⊎ (writer'.frames + length seat'.kept ≡ writer.frames + length frames)
  pub whole : stop ≡ Whole
      → (writer'.frames ≡ writer.frames + length frames) × (writer'.failed ≡ false) × IsDrained seat'

-- the same, by a client
abbrev pub Serves : List Act → Stop → ReaderState → ReaderState → StreamSeatValue → StreamSeatValue
    → WriterState → WriterState → Type 0
Serves = ServesTo ClientStopsAt

-- the stop that was kept, if one was
abbrev pub kept_or_whole : Option Stop → Stop
kept_or_whole None = Whole
kept_or_whole (Some stop) = stop

-- a stop that was kept is told, if it is a fault; where none was kept, want of memory
abbrev pub TellsStop : Option Stop → Stop → Type 0
TellsStop None told = told ≡ Refused causes.NoMemory
TellsStop (Some stop) told = stop ≢ Whole → told ≡ stop

-- how many images had gone out before, and how many then. An image in hand went out too, and then a fault that
-- was kept is told, else want of memory; or that failed, and where no fault was kept this one is told
abbrev pub TellsKept : Option Collected → Option Stop → (before : ℕ) → (told : Stop) → (delivered : ℕ) → Type 0
TellsKept None kept before told delivered = TellsStop kept told × (delivered ≡ before)
TellsKept (Some pair) kept before told delivered =
    IsFirst (kept_or_whole kept) (Refused causes.NoMemory) told × (delivered ≡ before + 1)
    ⊎ ((fault : WriteFault) × IsFirst (kept_or_whole kept) (Write fault) told × (delivered ≡ before))

-- the stop, or the fault of the flush where all went well before
abbrev pub Flushes : {T : Type 0} → Stop → Result T WriteFault → Stop → Type 0
Flushes Whole (Err fault) stop = stop ≡ Write fault
Flushes first flush stop = stop ≡ first
