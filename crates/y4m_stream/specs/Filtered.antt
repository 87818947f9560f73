-- What filtering a stream answers, with what it read and wrote.
use Rattle.std.specs.Prelude.{◌≡◌, ℕ, ◌+◌, ◌<◌, ◌≤◌, ◌⊎◌, List, [], ◌∷◌, ◌++◌, length, take, Option, Some}
use Rattle.std.specs.Prelude.{IfSome, Result, Ok, Err}
use Rattle.std.specs.Io.KnownBytes.{Appends, Consumes, Keeps}
use Rattle.y4m_header.specs.declared.chroma.Chroma.{Chroma}
use Rattle.y4m_header.specs.Chroma.{data_len}
use Rattle.y4m_header.specs.HeaderLine.{IsHeaderLine}
use Rattle.y4m_header.specs.StreamText.{FrameText, IsFrameOf, text_of}
use Rattle.row_bands.specs.declared.band_height.BandHeight.{BandHeight}
use Rattle.filters.specs.declared.error.FilterError.{FilterError}
use Rattle.filters.specs.declared.error.FilterError.TheVariants.{NoMemory}
use Rattle.filters.specs.declared.op.Op.{Op}
use Rattle.filters.specs.Chain.{ChainValue}
use Rattle.filters.specs.Refusal.{IsChainRefusedAs}
use Rattle.y4m_stream.specs.declared.fault.WriteFault.{WriteFault}
use Rattle.y4m_stream.specs.declared.fault.WriteFault.TheVariants.{Device}
use Rattle.y4m_stream.specs.declared.fault.FilterFault.{FilterFault}
use Rattle.y4m_stream.specs.declared.fault.FilterFault.TheVariants.{Read, Ops, Write, TooManyFrames}
use Rattle.y4m_stream.specs.Failures.{one_more}
use Rattle.y4m_stream.specs.Front.{IsFrameAhead, IsReadAhead, StandsAtHeader, StandsAtFrame}
use Rattle.y4m_stream.specs.Reader.{failures_at}
use Rattle.y4m_stream.specs.Served.{IsAskedFor, Serves}
use Rattle.y4m_stream.specs.Writer.{write_failures_at}
use Rattle.y4m_header.specs.declared.limits.TheConstants.{MOST_FRAMES}

-- what the source had to give and what it has left, and what the sink held before and holds after, where
-- these are known
pub record Ends : Type 0 where
  pub input : Option (List ℕ)
  pub left : Option (List ℕ)
  pub before : Option (List ℕ)
  pub after : Option (List ℕ)

-- the ends with these four, in that order
abbrev pub ends_of : Option (List ℕ) → Option (List ℕ) → Option (List ℕ) → Option (List ℕ) → Ends
ends_of input left before after = record { input = input; left = left; before = before; after = after }

-- the operations that are asked for make no chain, for this reason
pub record LacksChain (ops : List Op) (height : BandHeight) (w h : ℕ) (chroma : Chroma)
    (e : FilterError) : Type 0 where
  pub chain : ChainValue
  pub asked : IsAskedFor ops height w h chroma chain
  pub refused : IsChainRefusedAs e chain

-- a header line was read, and the operations make no chain for its frames
pub record IsRefused (e : FilterError) (ops : List Op) (height : BandHeight) (ends : Ends) : Type 0 where
  pub header : List ℕ
  pub rest : Option (List ℕ)
  pub w : ℕ
  pub h : ℕ
  pub chroma : Chroma
  pub taken : Consumes ends.input rest (header ++ 10 ∷ [])
  pub ahead : IsReadAhead rest ends.left
  pub is_header : IsHeaderLine header w h chroma
  pub refused : LacksChain ops height w h chroma e

-- no header line was due, for this reason
abbrev pub LacksHeader : FilterFault → List Op → BandHeight → Ends → Type 0
LacksHeader (Read fault) ops height ends = StandsAtHeader fault ends.input ends.left
LacksHeader (Ops e) ops height ends = IsRefused e ops height ends
LacksHeader (Write fault) ops height ends = ⊥
LacksHeader TooManyFrames ops height ends = ⊥

-- a stream text of these frames was read, and this is what it is served as
pub record Passed (ops : List Op) (height : BandHeight) (input : Option (List ℕ)) : Type 0 where
  pub text : List ℕ
  pub frames : List FrameText
  pub rest : Option (List ℕ)
  pub served : List ℕ
  pub serves : Serves ops height text frames served
  pub few : length frames ≤ MOST_FRAMES
  pub taken : Consumes input rest text

-- how far a stream was read: the bytes of a frame's data, how many frames were read, and what stands behind
-- them; and what is to be written for them
pub record Progress : Type 0 where
  pub len : ℕ
  pub count : ℕ
  pub rest : Option (List ℕ)
  pub due : List ℕ

abbrev pub progress_of : {ops : List Op} {height : BandHeight} {input : Option (List ℕ)}
    → Passed ops height input → Progress
progress_of passed = record {
  len = data_len passed.serves.is_text.w passed.serves.is_text.h passed.serves.is_text.chroma;
  count = length passed.frames;
  rest = passed.rest;
  due = passed.served;
}

-- one more frame of this many bytes was read
pub record HasNext (len : ℕ) (rest left : Option (List ℕ)) : Type 0 where
  pub frame : FrameText
  pub more : Option (List ℕ)
  pub is_frame : IsFrameOf len frame
  pub taken : Consumes rest more (text_of frame)
  pub ahead : IsReadAhead more left

-- n bytes of the text went out, from its front; the fault counts them and those that went out earlier
pub record CutsOff (before after : Option (List ℕ)) (text : List ℕ) (earlier : ℕ)
    (fault : WriteFault) : Type 0 where
  pub n : ℕ
  pub within : n ≤ length text
  pub front : Appends before after (take n text)
  pub counted : fault ≡ Device (earlier + n)

-- no more is read ahead than a line may have, whatever the frames
abbrev pub IsLineAhead : ℕ → Option (List ℕ) → Option (List ℕ) → Type 0
IsLineAhead len rest left = IsReadAhead rest left

-- why a stream was filtered no further, and what was written: all that was due, or a front of it where a
-- write failed, and there the input was read so far ahead; so many bytes went out earlier
abbrev pub StopsAt : (ℕ → Option (List ℕ) → Option (List ℕ) → Type 0)
    → FilterFault → Progress → ℕ → Ends → Type 0
StopsAt Ahead (Read fault) at earlier ends =
    StandsAtFrame at.len fault at.rest ends.left × Appends ends.before ends.after at.due
StopsAt Ahead (Ops e) at earlier ends = (e ≡ NoMemory) × (at.count < MOST_FRAMES)
    × HasNext at.len at.rest ends.left × Appends ends.before ends.after at.due
StopsAt Ahead (Write fault) at earlier ends =
    Ahead at.len at.rest ends.left × CutsOff ends.before ends.after at.due earlier fault
StopsAt Ahead TooManyFrames at earlier ends = (at.count ≡ MOST_FRAMES)
    × HasNext at.len at.rest ends.left × Appends ends.before ends.after at.due

-- the whole input was read, it is a stream text of n frames, and what it is served as was written
pub record IsServed (n : ℕ) (ops : List Op) (height : BandHeight) (ends : Ends) : Type 0 where
  pub passed : Passed ops height ends.input
  pub whole : IfSome ends.input (λ bytes. bytes ≡ passed.text)
  pub all_read : IfSome ends.input (λ _. ends.left ≡ Some [])
  pub count : length passed.frames ≡ n
  pub wrote : Appends ends.before ends.after passed.served

-- nothing was written where no header line was due, and else what the frames before the fault are served as
abbrev pub IsStopped : (ℕ → Option (List ℕ) → Option (List ℕ) → Type 0)
    → FilterFault → List Op → BandHeight → Ends → Type 0
IsStopped Ahead fault ops height ends =
    (LacksHeader fault ops height ends × Keeps ends.before ends.after)
    ⊎ ((passed : Passed ops height ends.input) × StopsAt Ahead fault (progress_of passed) 0 ends)

-- what filtering answers
abbrev pub IsFilteredReading : (ℕ → Option (List ℕ) → Option (List ℕ) → Type 0)
    → Result ℕ FilterFault → List Op → BandHeight → Ends → Type 0
IsFilteredReading Ahead (Ok n) ops height ends = IsServed n ops height ends
IsFilteredReading Ahead (Err fault) ops height ends = IsStopped Ahead fault ops height ends

-- the same, where each frame is read once the image before it was written
abbrev pub IsFiltered : Result ℕ FilterFault → List Op → BandHeight → Ends → Type 0
IsFiltered result ops height ends = IsFilteredReading IsLineAhead result ops height ends

-- the same, where each frame is read while the image before it is written
abbrev pub IsFilteredAhead : Result ℕ FilterFault → List Op → BandHeight → Ends → Type 0
IsFilteredAhead result ops height ends = IsFilteredReading IsFrameAhead result ops height ends

-- a read failed exactly where this is the fault
abbrev pub filter_reads_at : FilterFault → ℕ → ℕ
filter_reads_at (Read fault) n = failures_at fault n
filter_reads_at (Ops e) n = n
filter_reads_at (Write fault) n = n
filter_reads_at TooManyFrames n = n

-- a read failed exactly where that was answered
abbrev pub filter_reads_told : {T : Type 0} → Result T FilterFault → ℕ → ℕ
filter_reads_told (Ok x) n = n
filter_reads_told (Err fault) n = filter_reads_at fault n

-- a read failed exactly where that was answered, or beside a write that failed, where one may have too
abbrev pub CountsReads : {T : Type 0} → Result T FilterFault → ℕ → ℕ → Type 0
CountsReads (Ok x) old new = new ≡ old
CountsReads (Err (Read fault)) old new = new ≡ failures_at fault old
CountsReads (Err (Ops e)) old new = new ≡ old
CountsReads (Err (Write fault)) old new = (new ≡ old) ⊎ (new ≡ one_more old)
CountsReads (Err TooManyFrames) old new = new ≡ old

-- no write and no flush failed; or one did, as is told; or another fault came first, and then at most the
-- flush failed
abbrev pub CountsWrites : {T : Type 0} → Result T FilterFault → ℕ → ℕ → Type 0
CountsWrites (Ok x) old new = new ≡ old
CountsWrites (Err (Read fault)) old new = (new ≡ old) ⊎ (new ≡ one_more old)
CountsWrites (Err (Ops e)) old new = (new ≡ old) ⊎ (new ≡ one_more old)
CountsWrites (Err (Write fault)) old new = new ≡ write_failures_at fault old
CountsWrites (Err TooManyFrames) old new = (new ≡ old) ⊎ (new ≡ one_more old)
