-- What a client comes to.
use Rattle.std.specs.Prelude.{ℕ, ◌+◌, ◌≡◌, ◌≢◌, ◌≤◌, ◌<◌, ◌⊎◌, ⊤, Bool, IsTrue, true, false, List, []}
use Rattle.std.specs.Prelude.{◌∷◌, ◌++◌, All, Option, None, IfSome, IsSome, filter, length, take}
use Rattle.std.specs.List.{AllByRecursion}
use Rattle.std.specs.Io.KnownBytes.{Appends, Consumes, IsAtEnd, Keeps}
use Rattle.cbs_account.specs.declared.limits.TheConstants.{LAST_MOMENT}
use Rattle.y4m_header.specs.StreamText.{FrameText, IsFrameOf, frames_text, text_of}
use Rattle.filters.specs.Chain.{ChainValue}
use Rattle.y4m_stream.specs.declared.fault.ReadFault.{ReadFault}
use Rattle.y4m_stream.specs.declared.fault.WriteFault.{WriteFault}
use Rattle.y4m_stream.specs.declared.fault.WriteFault.TheVariants.{Device}
use Rattle.y4m_stream.specs.Failures.{one_more}
use Rattle.y4m_stream.specs.Filtered.{HasNext}
use Rattle.y4m_stream.specs.Front.{IsReadAhead, StandsAtFrame}
use Rattle.y4m_stream.specs.Reader.{ReaderState, data_len_of, failures_at}
use Rattle.y4m_stream.specs.Served.{IsImageText, IsServedText, served_header}
use Rattle.y4m_stream.specs.Writer.{CutsShort, FlushesOrFails}
use Rattle.serve_hub.specs.declared.entry.Act.{Act}
use Rattle.serve_hub.specs.declared.entry.Act.TheVariants.{Closed, Collected, Offered}
use Rattle.serve_hub.specs.Journal.{tick_of}
use Rattle.serve_hub.specs.Seats.{StreamSeatValue, spec_told}
use Rattle.serve_client.specs.declared.stop.Cause.TheVariants.{ClockEnd, NoMemory, TooManyFrames}
use Rattle.serve_client.specs.declared.stop.Stop.{Stop}
use Rattle.serve_client.specs.declared.stop.Stop.TheVariants.{Whole, Read, Write, Refused, Torn}

-- what a client begins with: its seat, its reader, and what its writer holds, where that is known, and how
-- many of its calls failed
pub record ClientStart : Type 0 where
  pub seat : StreamSeatValue
  pub reader : ReaderState
  pub before : Option (List ℕ)
  pub failures : ℕ

-- what a client tells and gives back: what its source has left, where that is known, and how many of its
-- reads have failed; what its writer holds, where that is known, how many of its calls have failed, and
-- whether all that it took is flushed
pub record ClientOutcome : Type 0 where
  pub stop : Stop
  pub accepted : ℕ
  pub delivered : ℕ
  pub left : Option (List ℕ)
  pub read_failures : ℕ
  pub after : Option (List ℕ)
  pub failures : ℕ
  pub is_flushed : Bool

-- what a client leaves
pub record ClientLeft : Type 0 where
  pub seat : StreamSeatValue
  pub outcome : ClientOutcome

-- the seat made no call
pub record IsNewSeat (seat : StreamSeatValue) : Type 0 where
  pub calls : seat.calls.list ≡ []
  pub accepted : seat.accepted ≡ 0
  pub kept : seat.kept ≡ []
  pub is_open : seat.is_closed ≡ false

abbrev pub is_offer : Act → Bool
is_offer (Offered tick number) = true
is_offer act = false

abbrev pub is_collection : Act → Bool
is_collection (Collected number) = true
is_collection act = false

abbrev pub is_close : Act → Bool
is_close Closed = true
is_close act = false

abbrev pub offers_in : List Act → ℕ
offers_in calls = length (filter is_offer calls)

abbrev pub collections_in : List Act → ℕ
collections_in calls = length (filter is_collection calls)

abbrev pub closes_in : List Act → ℕ
closes_in calls = length (filter is_close calls)

-- none of these calls closed the stream
abbrev pub IsUnclosed : List Act → Type 0
IsUnclosed calls = closes_in calls ≡ 0

-- an offer was answered with another number than how many were accepted before it
pub record HasOtherNumber (calls : List Act) : Type 0 where
  pub before : List Act
  pub tick : Option ℕ
  pub number : ℕ
  pub later : List Act
  pub other : number ≢ offers_in before
  pub whole : calls ≡ before ++ Offered tick number ∷ later

-- an entry of a frame has a moment that the clock may give: where the journal's clock was earlier, it goes on
-- to that moment, and else it stays
abbrev pub IsAtMoment : (Gives : ℕ → Type 0) → (clock : ℕ) → Act → Type 0
IsAtMoment Gives clock (Offered tick number) = (at : ℕ) × Gives at × (tick ≡ tick_of clock at)
IsAtMoment Gives clock act = ⊤

-- the same of all frames, each by some clock
abbrev pub AreAtMoments : (Gives : ℕ → Type 0) → List Act → Type 0
AreAtMoments Gives calls = AllByRecursion (λ act. (clock : ℕ) × IsAtMoment Gives clock act) calls

-- a clock that may give these moments allows the stop: its end is one only where it may give a moment past
-- the last
abbrev pub AllowsStop : (Gives : ℕ → Type 0) → Stop → Type 0
AllowsStop Gives (Refused ClockEnd) = (at : ℕ) × (LAST_MOMENT < at) × Gives at
AllowsStop Gives stop = ⊤

-- the seat is closed, and keeps no frame
pub record IsDrained (seat : StreamSeatValue) : Type 0 where
  pub closed : IsTrue seat.is_closed
  pub none : seat.kept ≡ []

-- the seat is closed, unless it was told Torn
abbrev pub IsClosedUnlessTorn : StreamSeatValue → Type 0
IsClosedUnlessTorn seat = IsSome seat.torn ⊎ IsTrue seat.is_closed

-- how far an input was read: the bytes of a frame's data, how many frames were accepted and how many may be,
-- what stands behind them, what the source has left, and the seat's calls
pub record ClientProgress : Type 0 where
  pub len : ℕ
  pub count : ℕ
  pub most : ℕ
  pub rest : Option (List ℕ)
  pub left : Option (List ℕ)
  pub calls : List Act

-- the input was read to its end
abbrev pub HasEnded : ClientProgress → Type 0
HasEnded at = IsAtEnd at.rest × Keeps at.rest at.left

-- one frame more was read, and wasn't accepted; or the input was read to its end
abbrev pub HasMoreOrEnds : ClientProgress → Type 0
HasMoreOrEnds at = HasNext at.len at.rest at.left ⊎ HasEnded at

-- a fault of the input stands there, or an offer was answered with another number, and then no frame behind
-- need have been read
abbrev pub HasLaterFault : ClientProgress → Type 0
HasLaterFault at =
    ((fault : ReadFault) × StandsAtFrame at.len fault at.rest at.left)
    ⊎ HasOtherNumber at.calls × IsReadAhead at.rest at.left

-- why a client has no more frames accepted; a write fault, or a Torn, hides a fault that came later
abbrev pub ClientStopsAt : Stop → ClientProgress → Type 0
ClientStopsAt Whole at = HasEnded at
ClientStopsAt (Read fault) at = StandsAtFrame at.len fault at.rest at.left
ClientStopsAt (Refused TooManyFrames) at = (at.count ≡ at.most) × HasNext at.len at.rest at.left
ClientStopsAt (Refused cause) at = HasNext at.len at.rest at.left
ClientStopsAt (Write fault) at = HasMoreOrEnds at ⊎ HasLaterFault at
ClientStopsAt Torn at = HasMoreOrEnds at ⊎ HasLaterFault at

-- no call closed the stream, and no more than a line behind the frames that were accepted was read
abbrev pub StandsOpen : ClientProgress → Type 0
StandsOpen at = IsUnclosed at.calls × IsReadAhead at.rest at.left

-- where a stream stands that is given up: at its input's end, with images left to write; or open, while it
-- reads or a fault is held, and no frame behind those that were accepted need have been read
abbrev pub GivesUpAt : Stop → ClientProgress → Type 0
GivesUpAt (Refused NoMemory) at = HasEnded at ⊎ StandsOpen at
GivesUpAt (Write fault) at = StandsOpen at
GivesUpAt Torn at = StandsOpen at
GivesUpAt stop at = ⊥

-- why no more frames of a stream were accepted: its client stopped, or the stream was given up
abbrev pub StreamStopsAt : Stop → ClientProgress → Type 0
StreamStopsAt stop at = ClientStopsAt stop at ⊎ GivesUpAt stop at

-- how many reads had failed before, and how many then: one more where that is why the client stopped, and
-- perhaps where a write fault or a Torn hides it
abbrev pub CountsReads : Stop → (old new : ℕ) → Type 0
CountsReads (Read fault) old new = new ≡ failures_at fault old
CountsReads (Write fault) old new = (new ≡ old) ⊎ (new ≡ one_more old)
CountsReads Torn old new = (new ≡ old) ⊎ (new ≡ one_more old)
CountsReads stop old new = new ≡ old

-- no memory was granted before anything was written, and no frame was read
pub record WroteNothing (start : ClientStart) (end : ClientOutcome) : Type 0 where
  pub stop : end.stop ≡ Refused NoMemory
  pub unread : end.left ≡ start.reader.left
  pub unaccepted : end.accepted ≡ 0
  pub none : end.delivered ≡ 0
  pub kept : Keeps start.before end.after
  pub no_failure : end.failures ≡ start.failures

-- the header line of the images didn't go out whole, and no frame was read
pub record CutsHeader (start : ClientStart) (end : ClientOutcome) : Type 0 where
  pub fault : WriteFault
  pub stop : end.stop ≡ Write fault
  pub unread : end.left ≡ start.reader.left
  pub unaccepted : end.accepted ≡ 0
  pub none : end.delivered ≡ 0
  pub cut : CutsShort start.before end.after
      (served_header start.seat.chain start.reader.header.line ++ 10 ∷ []) 0 fault
  pub failure : end.failures ≡ one_more start.failures

-- these bytes are a front of the image of the first of these frames, and not all of it
pub record BeginsImage (chain : ChainValue) (frames : List FrameText) (part : List ℕ) : Type 0 where
  pub next : FrameText
  pub later : List FrameText
  pub first : frames ≡ next ∷ later
  pub image : FrameText
  pub made : IsImageText chain next image
  pub n : ℕ
  pub partly : n < length (text_of image)
  pub front : part ≡ take n (text_of image)

-- all that was begun was written, and at most the flush failed; or a write failed within the next image
abbrev pub EndsWithin : ChainValue → List FrameText → List ℕ → ℕ → ℕ → Type 0
EndsWithin chain frames part old new =
    (part ≡ []) × ((new ≡ old) ⊎ (new ≡ one_more old)) ⊎ BeginsImage chain frames part × (new ≡ one_more old)

-- the text went out that the first of these frames are served as, and perhaps a front of the next one's image
pub record WroteImages (frames : List FrameText) (start : ClientStart) (end : ClientOutcome) : Type 0 where
  pub sent : List FrameText
  pub later : List FrameText
  pub served : List ℕ
  pub part : List ℕ
  pub first : frames ≡ sent ++ later
  pub count : length sent ≡ end.delivered
  pub is_served : IsServedText start.seat.chain start.reader.header.line sent served
  pub ends : EndsWithin start.seat.chain later part start.failures end.failures
  pub wrote : Appends start.before end.after (served ++ part)
  pub closed : FlushesOrFails end.is_flushed start.failures end.failures
  -- a write fault comes where a write or the flush failed, with the number of bytes that went out
  pub told : (fault : WriteFault) → end.stop ≡ Write fault
      → (end.failures ≡ one_more start.failures) × (fault ≡ Device (length (served ++ part)))

-- all images were written and flushed, and nothing failed
pub record IsWhole (start : ClientStart) (end : ClientOutcome) : Type 0 where
  pub all : end.delivered ≡ end.accepted
  pub no_failure : end.failures ≡ start.failures
  pub flushed : end.is_flushed ≡ true

-- what becomes of a stream: the frames that were taken off the front of its reader and accepted, why there
-- are no more, and what went out. Where nothing was written, or not all of the header line, no frame was
-- read. The seat is that of the last epoch, and its stream's seats made these calls in the epochs before
pub record Ends (StopsAt : Stop → ClientProgress → Type 0) (start : ClientStart) (past : List Act)
    (seat : StreamSeatValue) (end : ClientOutcome) : Type 0 where
  pub frames : List FrameText
  pub rest : Option (List ℕ)
  pub each : All (IsFrameOf (data_len_of start.reader.header)) frames
  pub taken : Consumes start.reader.rest rest (frames_text frames)
  pub count : length frames ≡ end.accepted
  pub stops : WroteNothing start end ⊎ CutsHeader start end ⊎ StopsAt end.stop (record {
    len = data_len_of start.reader.header;
    count = end.accepted;
    most = start.seat.frames;
    rest = rest;
    left = end.left;
    calls = past ++ seat.calls.list;
  })
  pub reads : CountsReads end.stop start.reader.failures end.read_failures
  pub out : WroteNothing start end ⊎ CutsHeader start end ⊎ WroteImages frames start end
  pub whole : end.stop ≡ Whole → IsWhole start end
  -- no image is thrown away, unless a write failed or an answer was told Torn: each is delivered, or its seat
  -- keeps it
  pub kept : (end.failures ≡ one_more start.failures) ⊎ IsSome seat.torn
      ⊎ (end.delivered + length seat.kept ≡ end.accepted)
  pub drained : end.stop ≡ Whole → IsDrained seat
  -- the seat, and its stream's calls
  pub number : seat.number ≡ start.seat.number
  pub spec : spec_told seat ≡ spec_told start.seat
  pub accepted : seat.accepted ≡ end.accepted
  pub offers : offers_in (past ++ seat.calls.list) ≡ end.accepted
  pub collections : end.delivered ≤ collections_in (past ++ seat.calls.list)
  pub before : seat.before ≡ start.seat.before + collections_in past
  -- the images that were delivered had been collected before an answer was first told Torn, if one was since
  -- the beginning; and one was, where that is the stop
  pub torn : start.seat.torn ≡ None → IfSome seat.torn (λ n. start.seat.before + end.delivered ≤ n)
  pub told : end.stop ≡ Torn → IsSome seat.torn

-- what a client comes to
abbrev pub ClientEnds : ClientStart → List Act → StreamSeatValue → ClientOutcome → Type 0
ClientEnds = Ends ClientStopsAt

-- and no image is left at its seat, which is closed
abbrev pub ClientIsDone : ClientStart → List Act → StreamSeatValue → ClientOutcome → Type 0
ClientIsDone start past seat end = ClientEnds start past seat end × (seat.kept ≡ []) × IsClosedUnlessTorn seat

-- what a stream comes to, whose client may have been given up between epochs
abbrev pub StreamEnds : ClientStart → List Act → StreamSeatValue → ClientOutcome → Type 0
StreamEnds = Ends StreamStopsAt
