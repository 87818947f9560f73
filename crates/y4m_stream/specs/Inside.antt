-- What contracts inside the crate speak of.
use Rattle.std.specs.Prelude.{◌≡◌, ℕ, ◌+◌, ◌<◌, ◌≤◌, ◌⊎◌, List, [], ◌∷◌, ◌++◌, length, take, drop}
use Rattle.std.specs.Prelude.{Option, Some, None}
use Rattle.std.specs.Prelude.{IfSome, unwrap_or, All, Bool, true, false, Result, Ok, Err}
use Rattle.std.specs.Io.KnownBytes.{Appends, Consumes, IsAtEnd, Keeps, prepend_known}
use Rattle.row_bands.specs.declared.band_height.BandHeight.{BandHeight}
use Rattle.filters.specs.declared.error.FilterError.TheVariants.{NoMemory as NoFilterMemory}
use Rattle.filters.specs.declared.op.Op.{Op}
use Rattle.filters.specs.Canvases.{HasLineOf}
use Rattle.filters.specs.Chain.{ChainValue}
use Rattle.frame_view.specs.declared.frame.Frame.{Frame}
use Rattle.frame_view.specs.Frame.{line_of, samples_of}
use Rattle.filters.specs.Refusal.{IsChain}
use Rattle.y4m_header.specs.Header.{HeaderValue}
use Rattle.y4m_header.specs.FrameLine.{IsFrameLine}
use Rattle.y4m_header.specs.Line.{IsLine}
use Rattle.y4m_header.specs.StreamText.{FrameText, IsFrameOf, frames_text}
use Rattle.y4m_stream.specs.declared.fault.ReadFault.{ReadFault}
use Rattle.y4m_stream.specs.declared.fault.ReadFault.TheVariants.{Device, LineTooLong, Header, NotFrame}
use Rattle.y4m_stream.specs.declared.fault.ReadFault.TheVariants.{Truncated, NoMemory, Failed}
use Rattle.y4m_stream.specs.declared.reader.Phase.{Phase}
use Rattle.y4m_stream.specs.declared.reader.Phase.TheVariants.{Open, Failed as HasFailed}
use Rattle.y4m_stream.specs.declared.fault.WriteFault.{WriteFault}
use Rattle.y4m_stream.specs.declared.fault.WriteFault.TheVariants.{Device as NotWritten}
use Rattle.y4m_stream.specs.declared.fault.WriteFault.TheVariants.{Failed as HasFailedBefore}
use Rattle.y4m_stream.specs.declared.fault.FilterFault.{FilterFault}
use Rattle.y4m_stream.specs.declared.fault.FilterFault.TheVariants.{Read, Ops, Write, TooManyFrames}
use Rattle.y4m_stream.specs.declared.filter.Filter.{Filter}
use Rattle.y4m_stream.specs.Failures.{one_more}
use Rattle.y4m_stream.specs.Front.{IsCutLine, IsLongLine, HasOtherLine, HasGiven, IsFrameAhead}
use Rattle.y4m_stream.specs.Reader.{ReaderState, IsOfHeader, MeetsEnd, TakesFrame, Answers, FailsAtFrame}
use Rattle.y4m_stream.specs.Reader.{data_len_of}
use Rattle.y4m_stream.specs.Writer.{WriterState, CutsShort, FailsToPut, IsWriterFor, PutsFrame}
use Rattle.y4m_stream.specs.Writer.{write_failures_at}
use Rattle.y4m_header.specs.declared.limits.TheConstants.{MOST_FRAMES}
use Rattle.y4m_stream.specs.Served.{IsAskedFor, IsHeaderOfImages, IsImageText, AreImages, served_header}
use Rattle.y4m_stream.specs.Filtered.{Progress, CountsReads, IsLineAhead, LacksChain, StopsAt}
use Rattle.y4m_stream.specs.Filtered.{filter_reads_told}

-- the bytes that were read from a source and not yet taken, what it has left, and how many of its reads
-- failed
pub record LookaheadState : Type 0 where
  pub held : List ℕ
  pub left : Option (List ℕ)
  pub failures : ℕ

-- all that is to be taken
abbrev pub rest_of : LookaheadState → Option (List ℕ)
rest_of ahead = prepend_known ahead.held ahead.left

-- the first n bytes are a line, and a line feed follows them
pub record BeginsWithLine (bytes : List ℕ) (n : ℕ) : Type 0 where
  pub within : n < length bytes
  pub is_line : IsLine (take n bytes)
  pub feed : bytes ≡ take n bytes ++ 10 ∷ drop (n + 1) bytes

-- the first n bytes are a frame line, and a line feed follows them
pub record HoldsFrameLine (bytes : List ℕ) (n : ℕ) : Type 0 where
  pub line : BeginsWithLine bytes n
  pub is_frame_line : IsFrameLine (take n bytes)

-- a frame keeps all but its samples, and as many of these
pub record KeepsForm (old new : Frame) : Type 0 where
  pub geometry : new.geometry ≡ old.geometry
  pub line : line_of new ≡ line_of old
  pub len : length (samples_of new) ≡ length (samples_of old)

-- no line stands at the front, for this reason
abbrev pub LacksLine : ReadFault → Option (List ℕ) → Option (List ℕ) → Type 0
LacksLine Device rest left = HasGiven rest left IsCutLine
LacksLine LineTooLong rest left = IfSome rest IsLongLine
LacksLine (Header e) rest left = ⊥
LacksLine NotFrame rest left = ⊥
LacksLine Truncated rest left = IfSome rest IsCutLine
LacksLine NoMemory rest left = ⊥
LacksLine Failed rest left = ⊥

-- something is left, and no frame line stands at the front, for this reason
abbrev pub LacksFrameLine : ReadFault → Option (List ℕ) → Option (List ℕ) → Type 0
LacksFrameLine Device rest left = HasGiven rest left IsCutLine
LacksFrameLine LineTooLong rest left = IfSome rest IsLongLine
LacksFrameLine (Header e) rest left = ⊥
LacksFrameLine NotFrame rest left = IfSome rest HasOtherLine
LacksFrameLine Truncated rest left = IfSome rest (λ bytes. (0 < length bytes) × IsCutLine bytes)
LacksFrameLine NoMemory rest left = ⊥
LacksFrameLine Failed rest left = ⊥

-- fewer than this many bytes are left, or came before a read failed
abbrev pub LacksBytes : ℕ → ReadFault → Option (List ℕ) → Option (List ℕ) → Type 0
LacksBytes len Device rest left = HasGiven rest left (λ bytes. length bytes < len)
LacksBytes len LineTooLong rest left = ⊥
LacksBytes len (Header e) rest left = ⊥
LacksBytes len NotFrame rest left = ⊥
LacksBytes len Truncated rest left = IfSome rest (λ bytes. length bytes < len)
LacksBytes len NoMemory rest left = ⊥
LacksBytes len Failed rest left = ⊥

-- what callers see of a reader with this header, in this phase
abbrev pub state_of : HeaderValue → Phase → LookaheadState → ReaderState
state_of header phase ahead = record {
  rest = rest_of ahead;
  left = ahead.left;
  header = header;
  phase = phase;
  failures = ahead.failures;
}

-- a reader that was open holds a frame line of n bytes, whole at the front, and has failed until it has taken
-- the frame
pub record FindsFrame (old new : LookaheadState) (phase phase' : Phase) (n : ℕ) : Type 0 where
  pub was_open : phase ≡ Open
  pub until : phase' ≡ HasFailed
  pub begins : BeginsWithLine new.held n
  pub is_frame_line : IsFrameLine (take n new.held)
  pub kept : Keeps (rest_of old) (rest_of new)
  pub no_failure : new.failures ≡ old.failures

-- a frame line is found, or what is answered in place of a frame
abbrev pub BeginsFrame : LookaheadState → LookaheadState → Phase → Phase
    → Result (Option ℕ) ReadFault → Type 0
BeginsFrame old new phase phase' (Ok (Some n)) = FindsFrame old new phase phase' n
BeginsFrame old new phase phase' (Ok None) =
    (header : HeaderValue) → Answers (state_of header phase old) (state_of header phase' new) (Ok None)
BeginsFrame old new phase phase' (Err fault) =
    (header : HeaderValue) → Answers (state_of header phase old) (state_of header phase' new) (Err fault)

-- such is an image that the chain makes of this frame
pub record HasImage (chain : ChainValue) (frame : FrameText) (P : FrameText → Type 0) : Type 0 where
  pub image : FrameText
  pub made : IsImageText chain frame image
  pub holds : P image

-- the chain is that of these operations for the header's frames; a frame, an image and a header of their
-- sizes are there
pub record IsFilterFor (ops : List Op) (height : BandHeight) (header : HeaderValue)
    (filter : Filter) : Type 0 where
  pub asked : IsAskedFor ops height header.width header.height header.chroma filter.images.chain
  pub is_chain : IsChain filter.images.chain
  pub of_header : IsOfHeader header filter.images.chain.geometry
  pub frame : filter.frame.geometry ≡ filter.images.chain.geometry
  pub shown : IsHeaderOfImages filter.images.chain header (unwrap_or filter.resized header)

-- the header line of the chain's images didn't go out whole
pub record CutsHeader (ops : List Op) (height : BandHeight) (header : HeaderValue)
    (before after : Option (List ℕ)) (fault : WriteFault) : Type 0 where
  pub chain : ChainValue
  pub asked : IsAskedFor ops height header.width header.height header.chroma chain
  pub is_chain : IsChain chain
  pub cut : CutsShort before after (served_header chain header.line ++ 10 ∷ []) 0 fault

-- no frame can be passed on, for this reason
abbrev pub FailsToBegin : FilterFault → List Op → BandHeight → HeaderValue
    → Option (List ℕ) → Option (List ℕ) → Type 0
FailsToBegin (Read fault) ops height header before after = ⊥
FailsToBegin (Ops e) ops height header before after =
    LacksChain ops height header.width header.height header.chroma e × Keeps before after
FailsToBegin (Write fault) ops height header before after = CutsHeader ops height header before after fault
FailsToBegin TooManyFrames ops height header before after = ⊥

-- frames can be passed on: the reader is open and the writer hasn't failed, and their frames are of the sizes
-- of the chain's frames and of its images
pub record CanPass (chain : ChainValue) (reader : ReaderState) (writer : WriterState) : Type 0 where
  pub reading : reader.phase ≡ Open
  pub writing : writer.failed ≡ false
  pub header : IsOfHeader reader.header chain.geometry
  pub size : IsWriterFor chain writer

-- the filter can pass frames on: its frame is of the size of its chain's
pub record CanFilter (filter : Filter) (reader : ReaderState) (writer : WriterState) : Type 0 where
  pub pass : CanPass filter.images.chain reader writer
  pub frame : filter.frame.geometry ≡ filter.images.chain.geometry

-- the same, before the first image went out
pub record CanBegin (filter : Filter) (reader : ReaderState) (writer : WriterState) : Type 0 where
  pub ready : CanFilter filter reader writer
  pub none : writer.frames ≡ 0

-- the image of the filter's frame, whose line was taken, can be made and written
pub record CanPaint (filter : Filter) (writer : WriterState) : Type 0 where
  pub geometry : filter.frame.geometry ≡ filter.images.chain.geometry
  pub line : HasLineOf filter.frame filter.images
  pub size : IsWriterFor filter.images.chain writer
  pub few : writer.frames < MOST_FRAMES
  pub writing : writer.failed ≡ false

-- the same, and beside it a frame can be read into the memory of another one
pub record CanReadBeside (filter : Filter) (reader : ReaderState) (writer : WriterState)
    (other : Frame) : Type 0 where
  pub ready : CanFilter filter reader writer
  pub few : writer.frames < MOST_FRAMES
  pub next : other.geometry ≡ filter.images.chain.geometry
  pub line : HasLineOf filter.frame filter.images

-- the chain stays, and the size of the filter's frame
pub record KeepsSizes (old new : Filter) : Type 0 where
  pub chain : new.images.chain ≡ old.images.chain
  pub frame : new.frame.geometry ≡ old.frame.geometry

-- a frame was taken, and its image went out
pub record PassesFrame (chain : ChainValue) (reader reader' : ReaderState) (writer writer' : WriterState)
    (frame image : FrameText) : Type 0 where
  pub taken : TakesFrame reader reader' frame
  pub made : IsImageText chain frame image
  pub put : PutsFrame writer writer' image

-- a frame was taken, and its image didn't go out whole
pub record CutsImage (chain : ChainValue) (fault : WriteFault) (reader reader' : ReaderState)
    (writer writer' : WriterState) : Type 0 where
  pub frame : FrameText
  pub image : FrameText
  pub taken : TakesFrame reader reader' frame
  pub made : IsImageText chain frame image
  pub fails : FailsToPut writer writer' image fault

-- no frame is passed on, for this reason
abbrev pub FailsToPass : ChainValue → ReaderState → ReaderState → WriterState → WriterState
    → FilterFault → Type 0
FailsToPass chain reader reader' writer writer' (Read fault) =
    FailsAtFrame reader reader' fault × (writer' ≡ writer)
FailsToPass chain reader reader' writer writer' (Ops e) =
    (e ≡ NoFilterMemory) × ((frame : FrameText) × TakesFrame reader reader' frame) × (writer' ≡ writer)
FailsToPass chain reader reader' writer writer' (Write fault) =
    CutsImage chain fault reader reader' writer writer'
FailsToPass chain reader reader' writer writer' TooManyFrames = ⊥

-- what passing the next frame on answers: whether there was one
abbrev pub PassesNext : ChainValue → ReaderState → ReaderState → WriterState → WriterState
    → Result Bool FilterFault → Type 0
PassesNext chain reader reader' writer writer' (Ok true) =
    (frame image : FrameText) × PassesFrame chain reader reader' writer writer' frame image
PassesNext chain reader reader' writer writer' (Ok false) = MeetsEnd reader reader' × (writer' ≡ writer)
PassesNext chain reader reader' writer writer' (Err fault) =
    FailsToPass chain reader reader' writer writer' fault

-- frames that were taken, and the images that the chain makes of them
pub record Passage (chain : ChainValue) (reader : ReaderState) : Type 0 where
  pub frames : List FrameText
  pub images : List FrameText
  pub rest : Option (List ℕ)
  pub each : All (IsFrameOf (data_len_of reader.header)) frames
  pub made : AreImages chain frames images
  pub few : length frames ≤ MOST_FRAMES
  pub taken : Consumes reader.rest rest (frames_text frames)

abbrev pub progress_on : {chain : ChainValue} {reader : ReaderState} → Passage chain reader → Progress
progress_on {reader = reader} passage = record {
  len = data_len_of reader.header;
  count = length passage.frames;
  rest = passage.rest;
  due = frames_text passage.images;
}

-- all that was left is n frames, and their images went out
pub record PassesAll (n : ℕ) (chain : ChainValue) (reader reader' : ReaderState)
    (writer writer' : WriterState) : Type 0 where
  pub passage : Passage chain reader
  pub at_end : IsAtEnd passage.rest
  pub all_read : Keeps passage.rest reader'.left
  pub count : length passage.frames ≡ n
  pub wrote : Appends writer.contents writer'.contents (frames_text passage.images)
  pub bytes : writer'.bytes ≡ writer.bytes + length (frames_text passage.images)
  pub writing : writer'.failed ≡ false

-- why not all frames were passed on
abbrev pub Stops : (ℕ → Option (List ℕ) → Option (List ℕ) → Type 0)
    → ChainValue → FilterFault → ReaderState → ReaderState → WriterState → WriterState → Type 0
Stops Ahead chain fault reader reader' writer writer' =
    (passage : Passage chain reader) × StopsAt Ahead fault (progress_on passage) writer.bytes (record {
      input = reader.rest;
      left = reader'.left;
      before = writer.contents;
      after = writer'.contents;
    })

-- a write failed exactly where this is the fault
abbrev pub filter_writes_at : FilterFault → ℕ → ℕ
filter_writes_at (Read fault) n = n
filter_writes_at (Ops e) n = n
filter_writes_at (Write fault) n = write_failures_at fault n
filter_writes_at TooManyFrames n = n

-- a write failed exactly where that was answered
abbrev pub filter_writes_told : {T : Type 0} → Result T FilterFault → ℕ → ℕ
filter_writes_told (Ok x) n = n
filter_writes_told (Err fault) n = filter_writes_at fault n

-- a read failed exactly where that was answered
abbrev pub ReadsTold : Result ℕ FilterFault → ℕ → ℕ → Type 0
ReadsTold answer old new = new ≡ filter_reads_told answer old

-- the writer has failed exactly where this is its fault
abbrev pub HasFailedAt : FilterFault → WriterState → Type 0
HasFailedAt (Read fault) writer = writer.failed ≡ false
HasFailedAt (Ops e) writer = writer.failed ≡ false
HasFailedAt (Write (NotWritten bytes)) writer = writer.failed ≡ true
HasFailedAt (Write HasFailedBefore) writer = ⊥
HasFailedAt TooManyFrames writer = writer.failed ≡ false

-- all frames were passed on, so many, or not all
abbrev pub PassesOrStops : (ℕ → Option (List ℕ) → Option (List ℕ) → Type 0) → ChainValue
    → ReaderState → ReaderState → WriterState → WriterState → Result ℕ FilterFault → Type 0
PassesOrStops Ahead chain reader reader' writer writer' (Ok n) =
    PassesAll n chain reader reader' writer writer'
PassesOrStops Ahead chain reader reader' writer writer' (Err fault) =
    Stops Ahead chain fault reader reader' writer writer' × HasFailedAt fault writer'

-- what passing frames on answers, where a write's fault finds the input read so far ahead, and that is known
-- of the reads that failed
pub record HasPassed (Ahead : ℕ → Option (List ℕ) → Option (List ℕ) → Type 0)
    (Reads : Result ℕ FilterFault → ℕ → ℕ → Type 0) (chain : ChainValue) (reader reader' : ReaderState)
    (writer writer' : WriterState) (answer : Result ℕ FilterFault) : Type 0 where
  pub outcome : PassesOrStops Ahead chain reader reader' writer writer' answer
  pub reads : Reads answer reader.failures reader'.failures
  pub writes : writer'.failures ≡ filter_writes_told answer writer.failures

-- the same, where each frame is read once the image before it was written
abbrev pub HasPassedInTurn : ChainValue → ReaderState → ReaderState → WriterState → WriterState
    → Result ℕ FilterFault → Type 0
HasPassedInTurn chain reader reader' writer writer' answer =
    HasPassed IsLineAhead ReadsTold chain reader reader' writer writer' answer

-- the same, where each frame is read while the image before it is written
abbrev pub HasPassedAhead : ChainValue → ReaderState → ReaderState → WriterState → WriterState
    → Result ℕ FilterFault → Type 0
HasPassedAhead chain reader reader' writer writer' answer =
    HasPassed IsFrameAhead CountsReads chain reader reader' writer writer' answer

-- a fault stays, and a number of frames stays where the flush succeeds
abbrev pub Closes : Result ℕ FilterFault → WriterState → Result ℕ FilterFault → Type 0
Closes (Ok n) writer (Ok m) = m ≡ n
Closes (Ok n) writer (Err fault) = writer.failed ≡ false → fault ≡ Write (NotWritten writer.bytes)
Closes (Err fault) writer result = result ≡ Err fault

-- after an answer that was no fault, the flush failed exactly where a fault is answered; else it may have,
-- where it was tried
abbrev pub CountsClosing : Result ℕ FilterFault → WriterState → Result ℕ FilterFault → ℕ → Type 0
CountsClosing (Ok n) writer (Ok m) after = after ≡ writer.failures
CountsClosing (Ok n) writer (Err fault) after = writer.failed ≡ false → after ≡ one_more writer.failures
CountsClosing (Err fault) writer result after = (writer.failed ≡ true → after ≡ writer.failures)
    × ((after ≡ writer.failures) ⊎ (after ≡ one_more writer.failures))
