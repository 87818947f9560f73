-- What callers see of a stream's reader, and what its calls answer.
use Rattle.std.specs.Prelude.{◌≡◌, ℕ, List, [], ◌∷◌, ◌++◌, Bool, true, false, Option, Some, None, Result, Ok}
use Rattle.std.specs.Prelude.{Err}
use Rattle.std.specs.Io.KnownBytes.{Consumes, IsAtEnd, Keeps}
use Rattle.frame_view.specs.declared.geometry.Geometry.{Geometry}
use Rattle.frame_view.specs.declared.frame.Frame.{Frame}
use Rattle.frame_view.specs.Frame.{line_of, samples_of}
use Rattle.y4m_header.specs.Chroma.{data_len}
use Rattle.y4m_header.specs.Header.{HeaderValue}
use Rattle.y4m_header.specs.HeaderLine.{IsHeaderLine}
use Rattle.y4m_header.specs.StreamText.{FrameText, IsFrameOf, text_of}
use Rattle.y4m_stream.specs.declared.fault.ReadFault.{ReadFault}
use Rattle.y4m_stream.specs.declared.fault.ReadFault.TheVariants.{Device, LineTooLong, Header, NotFrame}
use Rattle.y4m_stream.specs.declared.fault.ReadFault.TheVariants.{Truncated, NoMemory, Failed}
use Rattle.y4m_stream.specs.declared.reader.Phase.{Phase}
use Rattle.y4m_stream.specs.declared.reader.Phase.TheVariants.{Open, Ended, Failed as HasFailed}
use Rattle.y4m_stream.specs.Failures.{one_more}
use Rattle.y4m_stream.specs.Front.{IsReadAhead, StandsAtHeader, StandsAtFrame}

-- the rest is what is kept unread followed by what the source has left, where that is known; then the header,
-- what the next call does, and how many reads failed
pub record ReaderState : Type 0 where
  pub rest : Option (List ℕ)
  pub left : Option (List ℕ)
  pub header : HeaderValue
  pub phase : Phase
  pub failures : ℕ

-- a read failed in the call exactly where this is the fault
abbrev pub failures_at : ReadFault → ℕ → ℕ
failures_at Device n = one_more n
failures_at LineTooLong n = n
failures_at (Header e) n = n
failures_at NotFrame n = n
failures_at Truncated n = n
failures_at NoMemory n = n
failures_at Failed n = n

-- a read failed in the call exactly where it answered that
abbrev pub failures_told : {T : Type 0} → Result T ReadFault → ℕ → ℕ
failures_told (Ok x) n = n
failures_told (Err fault) n = failures_at fault n

-- the header line and its line feed were taken off the front, and no read failed
pub record IsOpened (rest : Option (List ℕ)) (failures : ℕ) (opened : ReaderState) : Type 0 where
  pub header : IsHeaderLine opened.header.line opened.header.width opened.header.height opened.header.chroma
  pub taken : Consumes rest opened.rest (opened.header.line ++ 10 ∷ [])
  pub ahead : IsReadAhead opened.rest opened.left
  pub is_open : opened.phase ≡ Open
  pub no_failure : opened.failures ≡ failures

-- the fault stands where the header line should; the source has this left, and so many of its reads have
-- failed now
pub record FailsToOpen (rest : Option (List ℕ)) (failures : ℕ) (left : Option (List ℕ)) (now : ℕ)
    (fault : ReadFault) : Type 0 where
  pub stands : StandsAtHeader fault rest left
  pub told : now ≡ failures_at fault failures

-- what opening answers
abbrev pub Opens : Option (List ℕ) → ℕ → Option (List ℕ) → ℕ → Result ReaderState ReadFault → Type 0
Opens rest failures left now (Ok opened) = IsOpened rest failures opened
Opens rest failures left now (Err fault) = FailsToOpen rest failures left now fault

-- the bytes of a frame under this header
abbrev pub data_len_of : HeaderValue → ℕ
data_len_of header = data_len header.width header.height header.chroma

-- the geometry is that of the header's frames
pub record IsOfHeader (header : HeaderValue) (geometry : Geometry) : Type 0 where
  pub width : geometry.width ≡ header.width
  pub height : geometry.height ≡ header.height
  pub chroma : geometry.chroma ≡ header.chroma

-- a frame as a stream has it
abbrev pub frame_text_of : Frame → FrameText
frame_text_of frame = record { line = line_of frame; samples = samples_of frame }

-- the text of a frame was taken off the front
pub record TakesFrame (old new : ReaderState) (frame : FrameText) : Type 0 where
  pub is_frame : IsFrameOf (data_len_of old.header) frame
  pub taken : Consumes old.rest new.rest (text_of frame)
  pub ahead : IsReadAhead new.rest new.left
  pub stays_open : new.phase ≡ Open
  pub no_failure : new.failures ≡ old.failures

-- nothing was left
pub record MeetsEnd (old new : ReaderState) : Type 0 where
  pub at_end : IsAtEnd old.rest
  pub kept : Keeps old.rest new.rest
  pub all_read : Keeps old.rest new.left
  pub ended : new.phase ≡ Ended
  pub no_failure : new.failures ≡ old.failures

-- the fault stands where the next frame should, and the reader is of no further use
pub record FailsAtFrame (old new : ReaderState) (fault : ReadFault) : Type 0 where
  pub stands : StandsAtFrame (data_len_of old.header) fault old.rest new.left
  pub failed : new.phase ≡ HasFailed
  pub told : new.failures ≡ failures_at fault old.failures

-- what the next call answers where the reader is open
abbrev pub AnswersOpen : ReaderState → ReaderState → Result (Option FrameText) ReadFault → Type 0
AnswersOpen old new (Ok (Some frame)) = TakesFrame old new frame
AnswersOpen old new (Ok None) = MeetsEnd old new
AnswersOpen old new (Err fault) = FailsAtFrame old new fault

-- what the next call answers: it reads on, or it answers the end again, or that the reader has failed
pub record Answers (old new : ReaderState) (answer : Result (Option FrameText) ReadFault) : Type 0 where
  pub header : new.header ≡ old.header
  pub is_open : old.phase ≡ Open → AnswersOpen old new answer
  pub has_ended : old.phase ≡ Ended → (answer ≡ Ok None) × (new ≡ old)
  pub has_failed : old.phase ≡ HasFailed → (answer ≡ Err Failed) × (new ≡ old)

-- the answer, with a frame as a stream has it
abbrev pub answer_of : Result (Option Frame) ReadFault → Result (Option FrameText) ReadFault
answer_of (Ok (Some frame)) = Ok (Some (frame_text_of frame))
answer_of (Ok None) = Ok None
answer_of (Err fault) = Err fault

-- the same, where it is told that this frame was read
abbrev pub answer_into : Frame → Result Bool ReadFault → Result (Option FrameText) ReadFault
answer_into frame (Ok true) = Ok (Some (frame_text_of frame))
answer_into frame (Ok false) = Ok None
answer_into frame (Err fault) = Err fault
