-- What follows from the definitions alone.
use Rattle.std.specs.Prelude.{All, ℕ, ◌≡◌, ◌≤◌, ◌⊎◌, ◌++◌, ⊤, List, [], length, take, Option, Some, IfSome}
use Rattle.std.specs.Io.KnownBytes.{Appends, Consumes}
use Rattle.y4m_header.specs.StreamText.{FrameText, IsFrameOf, IsStreamText, frames_text}
use Rattle.y4m_stream.specs.declared.fault.ReadFault.{ReadFault}
use Rattle.y4m_stream.specs.Front.{StandsAtFrame}
use Rattle.y4m_stream.specs.Laws.{IsOfBytes}
use Rattle.y4m_stream.specs.Reader.{IsOpened, data_len_of}
use Rattle.y4m_stream.specs.Served.{IsServedText}
use Rattle.serve_hub.specs.declared.entry.Act.{Act}
use Rattle.serve_hub.specs.Seats.{StreamSeatValue}
use Rattle.serve_client.specs.declared.stop.Stop.{Stop}
use Rattle.serve_client.specs.declared.stop.Cause.TheVariants.{NoMemory}
use Rattle.serve_client.specs.declared.stop.Stop.TheVariants.{Read, Refused, Torn, Whole, Write}
use Rattle.serve_client.specs.Clients.{ClientEnds, ClientOutcome, ClientProgress, ClientStart, ClientStopsAt}
use Rattle.serve_client.specs.Clients.{CutsHeader, Ends, IsUnclosed, StreamEnds}
use Rattle.serve_client.specs.Clients.{StreamStopsAt}
use Rattle.serve_client.specs.Clients.{WroteImages, WroteNothing}
use Rattle.serve_client.specs.Rests.{Begun, BegunValue, IsRestOf, RestValue, Unbegun}

-- the text is the whole input, all of it was read, and what it is served as was written
pub record ServesAll (input : Option (List ℕ)) (text : List ℕ) (frames : List FrameText)
    (start : ClientStart) (end : ClientOutcome) : Type 0 where
  pub whole : IfSome input (λ bytes. bytes ≡ text)
  pub all_read : IfSome input (λ _. end.left ≡ Some [])
  pub served : List ℕ
  pub is_served : IsServedText start.seat.chain start.reader.header.line frames served
  pub wrote : Appends start.before end.after served

-- a stream text of the frames that were accepted stands at the front of the input, and behind it why there
-- are no more; what went out is what they are served as, or a front of it
pub record ServesInput (StopsAt : Stop → ClientProgress → Type 0) (input : Option (List ℕ))
    (start : ClientStart) (past : List Act) (seat : StreamSeatValue) (end : ClientOutcome) : Type 0 where
  pub text : List ℕ
  pub frames : List FrameText
  pub rest : Option (List ℕ)
  pub is_text : IsStreamText text start.reader.header.line frames
  pub count : length frames ≡ end.accepted
  pub taken : Consumes input rest text
  pub stops : WroteNothing start end ⊎ CutsHeader start end ⊎ StopsAt end.stop (record {
    len = data_len_of start.reader.header;
    count = end.accepted;
    most = start.seat.frames;
    rest = rest;
    left = end.left;
    calls = past ++ seat.calls.list;
  })
  pub out : WroteNothing start end ⊎ CutsHeader start end ⊎ WroteImages frames start end
  pub whole : end.stop ≡ Whole → ServesAll input text frames start end

-- where a reader was opened on an input, and a stream has ended so, the input was served
abbrev pub InputIsServedTo : (StopsAt : Stop → ClientProgress → Type 0) → Type 0
InputIsServedTo StopsAt =
    (input : Option (List ℕ)) (failures : ℕ) (start : ClientStart) (past : List Act) (seat : StreamSeatValue)
    (end : ClientOutcome) → IsOpened input failures start.reader → Ends StopsAt start past seat end
    → ServesInput StopsAt input start past seat end

-- that of a client, and that of a stream that may have been given up
abbrev pub InputIsServed : Type 0
InputIsServed = InputIsServedTo ClientStopsAt × InputIsServedTo StreamStopsAt

-- the stop is a fault of the reader, and this one if it lies in the bytes
abbrev pub TellsFault : ReadFault → Stop → Type 0
TellsFault fault stop = (told : ReadFault) × (stop ≡ Read told) × (IsOfBytes told → told ≡ fault)

-- a stop of a stream that was given up before all was read
abbrev pub IsOfGivingUp : Stop → Type 0
IsOfGivingUp (Refused NoMemory) = ⊤
IsOfGivingUp (Write fault) = ⊤
IsOfGivingUp Torn = ⊤
IsOfGivingUp stop = ⊥

-- a stop that hides what comes later
abbrev pub HidesLater : Stop → Type 0
HidesLater (Write fault) = ⊤
HidesLater Torn = ⊤
HidesLater stop = ⊥

-- the fault is told, unless no frame was read, or a write fault or a Torn that came before hides it
abbrev pub IsToldOrHidden : ReadFault → ClientStart → ClientOutcome → Type 0
IsToldOrHidden fault start end =
    WroteNothing start end ⊎ CutsHeader start end ⊎ TellsFault fault end.stop ⊎ HidesLater end.stop

-- where a fault lies in the bytes behind the frames that were accepted, a client tells it, and so it is told
-- of a stream, unless that was given up before it was closed
abbrev pub InputFaultIsTold : Type 0
InputFaultIsTold =
    (start : ClientStart) (past : List Act) (seat : StreamSeatValue) (end : ClientOutcome) (fault : ReadFault)
    (bytes : List ℕ) (left : Option (List ℕ)) → IsOfBytes fault
    → StandsAtFrame (data_len_of start.reader.header) fault (Some bytes) left
    → ((e : ClientEnds start past seat end) → e.rest ≡ Some bytes
    → IsToldOrHidden fault start end)
    × ((e : StreamEnds start past seat end) → e.rest ≡ Some bytes
    → IsToldOrHidden fault start end
    ⊎ IsOfGivingUp end.stop × IsUnclosed (past ++ seat.calls.list))

-- a front of the text was written
pub record WroteFront (served : List ℕ) (start : ClientStart) (end : ClientOutcome) : Type 0 where
  pub n : ℕ
  pub within : n ≤ length served
  pub front : Appends start.before end.after (take n served)

-- where these frames were accepted, what went out is a front of what they are served as
abbrev pub AFrontWentOut : Type 0
AFrontWentOut = (start : ClientStart) (end : ClientOutcome) (frames : List FrameText) (served : List ℕ)
    → WroteNothing start end ⊎ CutsHeader start end ⊎ WroteImages frames start end
    → IsServedText start.seat.chain start.reader.header.line frames served → WroteFront served start end

-- frames were taken off the front of the input and accepted, and a front of what these are served as went out
pub record HasFrontOut (start : ClientStart) (begun : BegunValue) : Type 0 where
  pub frames : List FrameText
  pub rest : Option (List ℕ)
  pub each : All (IsFrameOf (data_len_of start.reader.header)) frames
  pub taken : Consumes start.reader.rest rest (frames_text frames)
  pub count : length frames ≡ begun.accepted
  pub front : (served : List ℕ) → IsServedText start.seat.chain start.reader.header.line frames served
      → (n : ℕ) × (n ≤ length served) × Appends start.before begun.writer.contents (take n served)

-- what went out where a client pauses: nothing, where nothing was done of its stream
abbrev pub FrontIsOut : ClientStart → RestValue → Type 0
FrontIsOut start (Unbegun reader contents failures) = contents ≡ start.before
FrontIsOut start (Begun begun) = HasFrontOut start begun

-- so it is with whatever is left to do of a stream
abbrev pub AFrontIsOut : Type 0
AFrontIsOut =
    (start : ClientStart) (past : List Act) (seat : StreamSeatValue) (rest : RestValue)
    → IsRestOf start past seat rest → FrontIsOut start rest
