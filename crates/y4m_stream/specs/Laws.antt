-- What follows from the definitions alone.
use Rattle.std.specs.Prelude.{◌≡◌, ◌≢◌, ◌+◌, ◌-◌, ◌<◌, ◌^◌, ℕ, List, ◌++◌, length, Option, Some, None, Result}
use Rattle.std.specs.Prelude.{Ok, Err, IfOk, IfErr}
use Rattle.y4m_header.specs.Chroma.{data_len}
use Rattle.y4m_header.specs.StreamText.{FrameText, IsStreamText, IsWholeFrames}
use Rattle.row_bands.specs.declared.band_height.BandHeight.{BandHeight}
use Rattle.filters.specs.declared.op.Op.{Op}
use Rattle.y4m_stream.specs.declared.fault.ReadFault.{ReadFault}
use Rattle.y4m_stream.specs.declared.fault.ReadFault.TheVariants.{Device, NoMemory}
use Rattle.y4m_stream.specs.declared.fault.WriteFault.{WriteFault}
use Rattle.y4m_stream.specs.declared.fault.WriteFault.TheVariants.{Failed as FailedBefore}
use Rattle.y4m_stream.specs.declared.reader.Phase.TheVariants.{Open}
use Rattle.y4m_stream.specs.Front.{StandsAtFrame}
use Rattle.y4m_stream.specs.Reader.{ReaderState, Opens, Answers, failures_at}
use Rattle.y4m_stream.specs.Served.{Serves}
use Rattle.y4m_stream.specs.Writer.{write_failures_at}

-- a stream text of these frames is served as one text
abbrev pub ServedIsDetermined : Type 0
ServedIsDetermined =
    (ops : List Op) (height : BandHeight) (text : List ℕ) (frames : List FrameText) (a b : List ℕ)
    → Serves ops height text frames a → Serves ops height text frames b → a ≡ b

-- the fault lies in the bytes: no read failed, and memory was there
abbrev pub IsOfBytes : ReadFault → Type 0
IsOfBytes fault = (fault ≢ Device) × (fault ≢ NoMemory)

-- the state, but for how far the source was read ahead
abbrev pub but_ahead : ReaderState → ReaderState
but_ahead reader = record reader { left = None }

-- the answer, with such a state
abbrev pub opening_but_ahead : Result ReaderState ReadFault → Result ReaderState ReadFault
opening_but_ahead (Ok opened) = Ok (but_ahead opened)
opening_but_ahead (Err fault) = Err fault

-- where these bytes are to be read, one reader is opened or one fault is answered
abbrev pub OpeningIsDetermined : Type 0
OpeningIsDetermined = (bytes : List ℕ) (failures : ℕ) (left left' : Option (List ℕ)) (now now' : ℕ)
    (a b : Result ReaderState ReadFault)
    → Opens (Some bytes) failures left now a → IfErr a IsOfBytes
    → Opens (Some bytes) failures left' now' b → IfErr b IsOfBytes
    → opening_but_ahead a ≡ opening_but_ahead b

-- where these bytes are left, one frame, the end or one fault is answered, and but for a fault one state is
-- left
abbrev pub AnswerIsDetermined : Type 0
AnswerIsDetermined =
    (old first second : ReaderState) (bytes : List ℕ) (a b : Result (Option FrameText) ReadFault)
    → old.rest ≡ Some bytes → old.phase ≡ Open
    → Answers old first a → IfErr a IsOfBytes → Answers old second b → IfErr b IsOfBytes
    → (a ≡ b) × IfOk a (λ _. but_ahead first ≡ but_ahead second)

-- the frames of a stream text are all its whole frames
abbrev pub FramesAreWhole : Type 0
FramesAreWhole = (text header : List ℕ) (frames : List FrameText)
    → IsStreamText text header frames → IsWholeFrames text (length frames)

-- where a fault of the bytes stands behind the frames of a stream text, no whole frame does
abbrev pub NoFrameIsBehindFault : Type 0
NoFrameIsBehindFault = (text header rest : List ℕ) (left : Option (List ℕ)) (frames : List FrameText)
    (is_text : IsStreamText text header frames) (fault : ReadFault)
    → IsOfBytes fault → StandsAtFrame (data_len is_text.w is_text.h is_text.chroma) fault (Some rest) left
    → IsWholeFrames (text ++ rest) (length frames)

-- below the last value, the count is one more at Device and the same at each other fault
abbrev pub DeviceIsToldExactly : Type 0
DeviceIsToldExactly = (fault : ReadFault) (n : ℕ) → n < 2 ^ 64 - 1
    → ((fault ≡ Device) → failures_at fault n ≡ n + 1) × ((fault ≢ Device) → failures_at fault n ≡ n)

-- below the last value, the count is the same at Failed and one more at each other fault
abbrev pub WriteFaultIsToldExactly : Type 0
WriteFaultIsToldExactly = (fault : WriteFault) (n : ℕ) → n < 2 ^ 64 - 1
    → ((fault ≡ FailedBefore) → write_failures_at fault n ≡ n)
    × ((fault ≢ FailedBefore) → write_failures_at fault n ≡ n + 1)
