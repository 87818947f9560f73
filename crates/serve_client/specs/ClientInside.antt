-- What contracts inside the crate say of a client.
use Rattle.std.specs.Prelude.{ℕ, ◌+◌, ◌≡◌, ◌≢◌, ◌≤◌, ◌<◌, ◌⊎◌, ⊤, false, List, [], ◌∷◌}
use Rattle.std.specs.Prelude.{◌++◌, All, Result, Ok, Err, Option, Some, None, IfSome, IsSome, length, map}
use Rattle.std.specs.declared.alloc.Global.{Global}
use Rattle.std.specs.declared.sync.Arc.{Arc}
use Rattle.std.specs.Arc.{arc_value}
use Rattle.std.specs.Vec.{vec_capacity}
use Rattle.std.specs.Io.KnownBytes.{Appends, Consumes}
use Rattle.cbs_account.specs.declared.limits.TheConstants.{LAST_MOMENT}
use Rattle.y4m_header.specs.StreamText.{FrameText, IsFrameOf, frames_text}
use Rattle.frame_view.specs.declared.frame.Frame.{Frame}
use Rattle.filters.specs.Chain.{ChainValue}
use Rattle.filters.specs.ChainImage.{FrameValue, value_of}
use Rattle.y4m_stream.specs.declared.fault.WriteFault.{WriteFault}
use Rattle.y4m_header.specs.declared.limits.TheConstants.{MOST_FRAMES}
use Rattle.y4m_stream.specs.declared.reader.Phase.TheVariants.{Open}
use Rattle.y4m_stream.specs.Reader.{FailsAtFrame, ReaderState, TakesFrame, data_len_of}
use Rattle.y4m_stream.specs.Reader.{frame_text_of}
use Rattle.y4m_stream.specs.Served.{AreImages, IsImageText}
use Rattle.y4m_stream.specs.Writer.{FailsToPut, IsWriterFor, WriterState}
use Rattle.serve_core.specs.declared.refusal.Refusal.TheVariants as cores
use Rattle.serve_core.specs.declared.collected.Collected.{Collected}
use Rattle.serve_core.specs.Streams.{IsImageOf}
use Rattle.serve_hub.specs.declared.entry.Act.{Act}
use Rattle.serve_hub.specs.declared.offer.Offer.{Offer}
use Rattle.serve_hub.specs.declared.refusal.Refusal.{Refusal}
use Rattle.serve_hub.specs.declared.refusal.Refusal.TheVariants.{Core, HistoryFull}
use Rattle.serve_hub.specs.Calls.{Accepts, Notes}
use Rattle.serve_hub.specs.Seats.{StreamSeatValue, collected_by, spec_told, torn_at}
use Rattle.serve_client.specs.declared.buffers.Buffers.{Buffers}
use Rattle.serve_client.specs.declared.feeding.Fed.{Fed}
use Rattle.serve_client.specs.declared.feeding.Fed.TheVariants as feds
use Rattle.serve_client.specs.declared.feeding.Offered.{Offered}
use Rattle.serve_client.specs.declared.feeding.Offered.TheVariants as offered
use Rattle.serve_client.specs.declared.stop.Cause.TheVariants as causes
use Rattle.serve_client.specs.declared.stop.Halt.{Halt}
use Rattle.serve_client.specs.declared.stop.Halt.TheVariants.{Full, Stopped}
use Rattle.serve_client.specs.declared.stop.Stop.{Stop}
use Rattle.serve_client.specs.declared.stop.Stop.TheVariants.{Whole, Read, Write, Refused, Torn}
use Rattle.serve_client.specs.Clients.{AllowsStop, AreAtMoments, ClientProgress, ClientStopsAt}
use Rattle.serve_client.specs.Clients.{HasOtherNumber}
use Rattle.serve_client.specs.Clients.{CountsReads, IsUnclosed, collections_in, offers_in}
use Rattle.serve_client.specs.Hands.{Behind, CanPutOn, IsPairOf}

-- a refusal that isn't that of a full journal
abbrev pub stop_of : Refusal → Stop
stop_of (Core cores.TooManyFrames) = Refused causes.TooManyFrames
stop_of (Core cores.ClockEnd) = Refused causes.ClockEnd
stop_of (Core cores.NoMemory) = Refused causes.NoMemory
stop_of (Core cores.Drained) = Whole
stop_of e = Torn

-- why a client goes no further
abbrev pub halt_of : Refusal → Halt
halt_of HistoryFull = Full None
halt_of e = Stopped (stop_of e)

-- after it a client still collects and writes
abbrev pub IsUseful : Stop → Type 0
IsUseful Whole = ⊤
IsUseful (Read fault) = ⊤
IsUseful (Refused cause) = ⊤
IsUseful (Write fault) = ⊥
IsUseful Torn = ⊥

-- a stop that isn't a fault of the writer
abbrev pub IsNoWrite : Stop → Type 0
IsNoWrite Whole = ⊤
IsNoWrite (Read fault) = ⊤
IsNoWrite (Refused cause) = ⊤
IsNoWrite (Write fault) = ⊥
IsNoWrite Torn = ⊤

-- the first of two stops that is a fault
abbrev pub IsFirst : Stop → Stop → Stop → Type 0
IsFirst Whole later first = first ≡ later
IsFirst stop later first = first ≡ stop

-- a stop by a seat, or by the writer, while frames are offered
abbrev pub IsOfSeat : Stop → Type 0
IsOfSeat Whole = ⊥
IsOfSeat (Read fault) = ⊥
IsOfSeat (Refused cause) = ⊤
IsOfSeat (Write fault) = ⊤
IsOfSeat Torn = ⊤

-- why no image was collected and written: the journal is full, none is left, or a stop by a seat or the
-- writer
abbrev pub IsOfCollection : Halt → Type 0
IsOfCollection (Full image) = ⊤
IsOfCollection (Stopped Whole) = ⊤
IsOfCollection (Stopped (Read fault)) = ⊥
IsOfCollection (Stopped (Refused cause)) = ⊥
IsOfCollection (Stopped (Write fault)) = ⊤
IsOfCollection (Stopped Torn) = ⊤

-- why an image of an open stream isn't collected and written: the journal is full, or a stop by a seat or the
-- writer, behind which nothing more is written
abbrev pub IsOfDelivery : Halt → Type 0
IsOfDelivery (Full image) = ⊤
IsOfDelivery (Stopped stop) = IsUseful stop → ⊥

-- why an image wasn't written: the journal is full, or the writer failed
abbrev pub IsOfWriting : Halt → Type 0
IsOfWriting (Full image) = ⊤
IsOfWriting (Stopped Whole) = ⊥
IsOfWriting (Stopped (Read fault)) = ⊥
IsOfWriting (Stopped (Refused cause)) = ⊥
IsOfWriting (Stopped (Write fault)) = ⊤
IsOfWriting (Stopped Torn) = ⊥

-- the image in hand, if there is one
abbrev pub image_in : Halt → Option Collected
image_in (Full image) = image
image_in (Stopped stop) = None

-- an image in hand is of the chain, and the writer can go on with it
abbrev pub IsLeft : ChainValue → WriterState → Halt → Type 0
IsLeft chain writer halt = IfSome (image_in halt) (λ pair. IsPairOf chain pair × CanPutOn writer pair)

-- it is this one
abbrev pub LeavesInHand : Collected → WriterState → Halt → Type 0
LeavesInHand pair writer halt = IfSome (image_in halt) (λ left. (left ≡ pair) × CanPutOn writer left)

-- the frames that a seat keeps, as a stream has them
abbrev pub texts_of : List FrameValue → List FrameText
texts_of frames = map (λ f. record { line = f.line; samples = f.samples }) frames

-- memory for the chain's frames and images
pub record AreBuffersFor (chain : ChainValue) (buffers : Buffers) : Type 0 where
  pub sources : All (λ (f : Arc Frame Global). (arc_value f).geometry ≡ chain.geometry) buffers.sources.items
  pub images : All (IsImageOf chain) buffers.images.items

-- there is a place for so many frames, and for as many images
pub record HasPlaces (places : ℕ) (buffers : Buffers) : Type 0 where
  pub sources : vec_capacity buffers.sources ≡ places
  pub images : vec_capacity buffers.images ≡ places

-- there are as many places as before
pub record HasSamePlaces (old new : Buffers) : Type 0 where
  pub sources : vec_capacity new.sources ≡ vec_capacity old.sources
  pub images : vec_capacity new.images ≡ vec_capacity old.images

-- of this memory and one more, the one more is kept behind the others where there is a place for it
abbrev pub IsKept : {T : Type 0} → (places : ℕ) → (more : T) → (old new : List T) → Type 0
IsKept places more old new =
    (length old < places → new ≡ old ++ more ∷ []) × (places ≤ length old → new ≡ old)

-- as many offers were accepted as frames, these calls of earlier epochs included
abbrev pub IsCounted : List Act → StreamSeatValue → Type 0
IsCounted past seat = offers_in (past ++ seat.calls.list) ≡ seat.accepted

-- where the seat is open, no call closed its stream, these calls of earlier epochs included
abbrev pub ShowsClose : List Act → StreamSeatValue → Type 0
ShowsClose past seat = seat.is_closed ≡ false → IsUnclosed (past ++ seat.calls.list)

-- what stays of a stream's seat while its frames move
pub record Stays (old new : StreamSeatValue) : Type 0 where
  pub number : new.number ≡ old.number
  pub spec : spec_told new ≡ spec_told old
  pub is_closed : new.is_closed ≡ old.is_closed
  pub torn : new.torn ≡ old.torn

-- the frames that were accepted are those whose images went out, each whole, and those that the seat keeps
pub record Accounted (seat : StreamSeatValue) (writer : WriterState) : Type 0 where
  pub balanced : writer.frames + length seat.kept ≡ seat.accepted
  pub within : seat.accepted ≤ seat.frames
  pub most : seat.frames ≤ MOST_FRAMES
  pub is_open : seat.is_closed ≡ false
  pub writing : writer.failed ≡ false
  pub none : writer.part ≡ 0

-- calls were added to the seat's, among them each offer and each collection that was accepted; where no
-- offer was, the moments of the first and the latest stay. Where it is open still, none of them closed it.
-- What it noted of a Torn stays; where it is told so first, no fewer images were collected than before
pub record TalliesSeat (old new : StreamSeatValue) : Type 0 where
  pub number : new.number ≡ old.number
  pub spec : spec_told new ≡ spec_told old
  pub before : new.before ≡ old.before
  pub added : List Act
  pub calls : new.calls.list ≡ old.calls.list ++ added
  pub offers : offers_in new.calls.list + old.accepted ≡ offers_in old.calls.list + new.accepted
  pub moments : offers_in added ≡ 0 → new.moments ≡ old.moments
  pub collections : collections_in old.calls.list ≤ collections_in new.calls.list
  pub unclosed : new.is_closed ≡ false → (old.is_closed ≡ false) × IsUnclosed added
  pub noted : (n : ℕ) → old.torn ≡ Some n → new.torn ≡ Some n
  pub torn : old.torn ≡ None → IfSome new.torn (λ n. collected_by old ≤ n)

-- and the writer has put no more images than were collected, and than were before a first Torn
pub record Tallies (old new : StreamSeatValue) (writer writer' : WriterState) : Type 0 where
  pub seat : TalliesSeat old new
  pub images : writer'.frames + collections_in old.calls.list ≤ writer.frames + collections_in new.calls.list
  pub torn : old.torn ≡ None → IfSome new.torn (λ n. writer'.frames + collected_by old ≤ writer.frames + n)

-- no frame was offered, or one at this moment
abbrev pub OffersAt : (at : ℕ) → (old new : StreamSeatValue) → Type 0
OffersAt at old new = (new.calls ≡ old.calls) × (new.moments ≡ old.moments) ⊎ Notes at old new

-- where all frames were offered at moments that the clock may give, all still are, and where it may give that
-- of the first, or of the latest, it still may
pub record KeepsMoments (Gives : ℕ → Type 0) (old new : StreamSeatValue) : Type 0 where
  pub calls : AreAtMoments Gives old.calls.list → AreAtMoments Gives new.calls.list
  pub first : IfSome old.moments (λ m. Gives m.first) → IfSome new.moments (λ m. Gives m.first)
  pub latest : IfSome old.moments (λ m. Gives m.latest) → IfSome new.moments (λ m. Gives m.latest)

-- where the clock allows the stop that was kept, if one was, it allows the one that is kept or told then
abbrev pub KeepsAllowed : (Gives : ℕ → Type 0) → (old new : Option Stop) → Type 0
KeepsAllowed Gives old new = IfSome old (AllowsStop Gives) → IfSome new (AllowsStop Gives)

-- a fault that was kept is the one that is kept or told then
abbrev pub KeepsFault : (old new : Option Stop) → Type 0
KeepsFault old new = IfSome old (λ stop. stop ≢ Whole → new ≡ Some stop)

-- the clock's end is kept or told only where it was kept
abbrev pub IsNoNewEnd : (old new : Option Stop) → Type 0
IsNoNewEnd old new = new ≡ Some (Refused causes.ClockEnd) → old ≡ Some (Refused causes.ClockEnd)

-- nothing but the seat's calls, what it keeps and what it notes of a Torn may have changed
abbrev pub GivesUp : StreamSeatValue → StreamSeatValue → Type 0
GivesUp old new = new ≡ record old { calls = new.calls; kept = new.kept; torn = new.torn }

-- nothing of the seat may have changed but its calls, whether it is closed, and what it notes of a Torn
abbrev pub MayClose : StreamSeatValue → StreamSeatValue → Type 0
MayClose old new = new ≡ record old { calls = new.calls; is_closed = new.is_closed; torn = new.torn }

-- these frames were accepted; the oldest that the seat then kept went out as their images, and it keeps the
-- others
pub record Moves (seat seat' : StreamSeatValue) (writer writer' : WriterState)
    (accepted : List FrameText) : Type 0 where
  pub sent : List FrameText
  pub images : List FrameText
  pub order : texts_of seat.kept ++ accepted ≡ sent ++ texts_of seat'.kept
  pub made : AreImages seat.chain sent images
  pub wrote : Appends writer.contents writer'.contents (frames_text images)
  pub bytes : writer'.bytes ≡ writer.bytes + length (frames_text images)
  pub frames : writer'.frames ≡ writer.frames + length sent
  pub count : seat'.accepted ≡ seat.accepted + length accepted
  pub within : seat.accepted ≤ seat.frames → seat'.accepted ≤ seat'.frames
  pub seat_stays : Stays seat seat'
  pub writer_stays : writer' ≡ record writer {
    contents = writer'.contents;
    frames = writer'.frames;
    bytes = writer'.bytes;
  }

-- the same, but the image of the oldest frame that was left didn't go out whole
pub record Cuts (seat : StreamSeatValue) (writer writer' : WriterState) (accepted : List FrameText)
    (fault : WriteFault) : Type 0 where
  pub mid : StreamSeatValue
  pub between : WriterState
  pub moved : Moves seat mid writer between accepted
  pub next : FrameText
  pub lost : List FrameText
  pub image : FrameText
  pub oldest : texts_of mid.kept ≡ next ∷ lost
  pub made : IsImageText seat.chain next image
  pub cut : FailsToPut between writer' image fault

-- what has moved where a client stops; after a write fault, and where an answer contradicts the seat, which
-- notes it then, what it keeps is of no use
abbrev pub StopsWith : Stop → StreamSeatValue → StreamSeatValue → WriterState → WriterState
    → List FrameText → Type 0
StopsWith Whole seat seat' writer writer' accepted = Moves seat seat' writer writer' accepted
StopsWith (Read fault) seat seat' writer writer' accepted = Moves seat seat' writer writer' accepted
StopsWith (Refused cause) seat seat' writer writer' accepted = Moves seat seat' writer writer' accepted
StopsWith (Write fault) seat seat' writer writer' accepted = Cuts seat writer writer' accepted fault
StopsWith Torn seat seat' writer writer' accepted =
    (mid : StreamSeatValue) × Moves seat mid writer writer' accepted × IsSome seat'.torn

-- what has moved where a client goes no further; where an image is in hand, what had moved before that was
-- begun
abbrev pub HaltsWith : Halt → StreamSeatValue → StreamSeatValue → WriterState → WriterState
    → List FrameText → Type 0
HaltsWith (Full image) seat seat' writer writer' accepted =
    Behind image seat' writer' (λ s w. Moves seat s writer w accepted)
HaltsWith (Stopped stop) seat seat' writer writer' accepted =
    StopsWith stop seat seat' writer writer' accepted

-- the frames were accepted, or none was and the client goes no further
abbrev pub MovesOrHalts : {T : Type 0} → Result T Halt → StreamSeatValue → StreamSeatValue → WriterState
    → WriterState → List FrameText → Type 0
MovesOrHalts (Ok t) seat seat' writer writer' frames = Moves seat seat' writer writer' frames
MovesOrHalts (Err halt) seat seat' writer writer' frames = HaltsWith halt seat seat' writer writer' []

-- a frame comes back, perhaps with the memory of an image
abbrev pub ComesBack : Offer → Frame → StreamSeatValue → StreamSeatValue → Type 0
ComesBack back frame old new =
    (arc_value back.frame ≡ frame) × IfSome back.memory (IsImageOf old.chain) × (new ≡ old)

-- the seat, told Torn
abbrev pub as_torn : StreamSeatValue → StreamSeatValue
as_torn seat = torn_at (collected_by seat) seat

-- one offer of a frame at a moment: it was accepted; or it comes back, the queue or the journal being full;
-- or the client stops
abbrev pub IsOffered : Offered → (at : ℕ) → Frame → StreamSeatValue → StreamSeatValue → Type 0
IsOffered offered.Accepted at frame old new = (n : ℕ) × Accepts (value_of frame) n old new
IsOffered (offered.QueueFull back) at frame old new = ComesBack back frame old new
IsOffered (offered.JournalFull back) at frame old new = ComesBack back frame old new
IsOffered (offered.Stopped (Refused cause)) at frame old new =
    (cause ≡ causes.TooManyFrames → old.accepted ≡ old.frames) × (cause ≡ causes.ClockEnd → LAST_MOMENT < at)
    × (new ≡ old)
IsOffered (offered.Stopped Torn) at frame old new =
    (new ≡ as_torn old) ⊎ ((n : ℕ) × (n ≢ old.accepted)
    × ((mid : StreamSeatValue) × Accepts (value_of frame) n old mid × (new ≡ as_torn mid)))
IsOffered (offered.Stopped stop) at frame old new = ⊥

-- the frame wasn't accepted, and the client stops
pub record Refuses (stop : Stop) (seat seat' : StreamSeatValue) (writer writer' : WriterState) : Type 0 where
  pub of_seat : IsOfSeat stop
  pub moved : StopsWith stop seat seat' writer writer' []
  pub stays : GivesUp seat seat'
  pub limit : stop ≡ Refused causes.TooManyFrames → seat'.accepted ≡ seat.frames

-- the frame was accepted with another number than the seat's next
pub record AcceptsTorn (stop : Stop) (frame : FrameText) (seat seat' : StreamSeatValue)
    (writer writer' : WriterState) : Type 0 where
  pub torn : stop ≡ Torn
  pub other : (past : List Act) → IsCounted past seat → HasOtherNumber (past ++ seat'.calls.list)
  pub mid : StreamSeatValue
  pub moved : Moves seat mid writer writer' (frame ∷ [])
  pub noted : seat' ≡ as_torn mid

-- the frame comes back, since the journal is full, and an image may be in hand
pub record KeepsFrame (back : Arc Frame Global) (image : Option Collected) (frame : Frame)
    (seat seat' : StreamSeatValue) (writer writer' : WriterState) : Type 0 where
  pub same : arc_value back ≡ frame
  pub moved : Behind image seat' writer' (λ s w. Moves seat s writer w [])
  pub stays : GivesUp seat seat'

-- what a frame comes to that isn't accepted as it should be
abbrev pub Unfed : Fed → Frame → StreamSeatValue → StreamSeatValue → WriterState → WriterState → Type 0
Unfed (feds.Paused None image) frame seat seat' writer writer' = ⊥
Unfed (feds.Paused (Some back) image) frame seat seat' writer writer' =
    KeepsFrame back image frame seat seat' writer writer'
Unfed (feds.Held stop) frame seat seat' writer writer' = ⊥
Unfed (feds.Stopped stop) frame seat seat' writer writer' =
    Refuses stop seat seat' writer writer' ⊎ AcceptsTorn stop (frame_text_of frame) seat seat' writer writer'

-- why no more frames are offered, where no place was made for the one in hand
abbrev pub fed_of : Halt → Arc Frame Global → Fed
fed_of (Full image) back = feds.Paused (Some back) image
fed_of (Stopped stop) back = feds.Stopped stop

-- why no frame is read, where an image wasn't collected and written
abbrev pub fed_before : Halt → Fed
fed_before (Full image) = feds.Paused None image
fed_before (Stopped stop) = feds.Held stop

-- the image in hand, if there is one
abbrev pub fed_image : Fed → Option Collected
fed_image (feds.Paused in_hand image) = image
fed_image (feds.Held stop) = None
fed_image (feds.Stopped stop) = None

-- the frame was accepted, or it wasn't as it should be
abbrev pub Offers : {T : Type 0} → Result T Fed → Frame → StreamSeatValue → StreamSeatValue → WriterState
    → WriterState → Type 0
Offers (Ok t) frame seat seat' writer writer' = Moves seat seat' writer writer' (frame_text_of frame ∷ [])
Offers (Err fed) frame seat seat' writer writer' = Unfed fed frame seat seat' writer writer'

-- the text of the frame in hand, if there is one
abbrev pub text_in : Option (Arc Frame Global) → Option FrameText
text_in None = None
text_in (Some frame) = Some (frame_text_of (arc_value frame))

-- the frame in hand, if there is one, was taken off the front of this reader
abbrev pub Holds : ReaderState → ReaderState → Option FrameText → Type 0
Holds before reader None = reader ≡ before
Holds before reader (Some frame) = TakesFrame before reader frame × (reader.header ≡ before.header)

-- no frame was read, or no memory was granted for one that was
abbrev pub IsUnread : ReaderState → ReaderState → Stop → Type 0
IsUnread old new Whole = ⊥
IsUnread old new (Read fault) = FailsAtFrame old new fault
IsUnread old new (Refused causes.NoMemory) = (frame : FrameText) × TakesFrame old new frame
IsUnread old new (Refused cause) = ⊥
IsUnread old new (Write fault) = ⊥
IsUnread old new Torn = ⊥

-- these frames were taken off the front of the reader
pub record Takes (reader reader' : ReaderState) (frames : List FrameText) : Type 0 where
  pub each : All (IsFrameOf (data_len_of reader.header)) frames
  pub taken : Consumes reader.rest reader'.rest (frames_text frames)
  pub header : reader'.header ≡ reader.header
  pub no_failure : reader'.failures ≡ reader.failures

-- these frames were taken off the front of the reader, and each was accepted
pub record Passes (reader reader' : ReaderState) (seat seat' : StreamSeatValue) (writer writer' : WriterState)
    (frames : List FrameText) : Type 0 where
  pub each : All (IsFrameOf (data_len_of reader.header)) frames
  pub taken : Consumes reader.rest reader'.rest (frames_text frames)
  pub moved : Moves seat seat' writer writer' frames
  pub header : reader'.header ≡ reader.header
  pub no_failure : reader'.failures ≡ reader.failures

-- some frames passed, and the reader is open
pub record HasPassed (reader reader' : ReaderState) (seat seat' : StreamSeatValue)
    (writer writer' : WriterState) : Type 0 where
  pub frames : List FrameText
  pub passed : Passes reader reader' seat seat' writer writer' frames
  pub is_open : reader'.phase ≡ Open

-- some frames passed, and the one behind them is in hand, if there is one
pub record HasInHand (reader reader' : ReaderState) (seat seat' : StreamSeatValue)
    (writer writer' : WriterState) (in_hand : Option FrameText) : Type 0 where
  pub before : ReaderState
  pub frames : List FrameText
  pub passed : Passes reader before seat seat' writer writer' frames
  pub holds : Holds before reader' in_hand
  pub is_open : reader'.phase ≡ Open

-- some frames passed, and then an image wasn't collected and written
pub record Breaks (stop : Stop) (reader reader' : ReaderState) (seat seat' : StreamSeatValue)
    (writer writer' : WriterState) : Type 0 where
  pub frames : List FrameText
  pub mid : StreamSeatValue
  pub between : WriterState
  pub passed : Passes reader reader' seat mid writer between frames
  pub is_open : reader'.phase ≡ Open
  pub moved : StopsWith stop mid seat' between writer' []
  pub stays : GivesUp mid seat'
  pub spoilt : IsUseful stop → ⊥

-- why no more is read of a stream, and how far it came
pub record StopsReadingAt (StopsAt : Stop → ClientProgress → Type 0) (past : List Act) (stop : Stop)
    (reader reader' : ReaderState) (seat seat' : StreamSeatValue) (frames : List FrameText) : Type 0 where
  pub rest : Option (List ℕ)
  pub each : All (IsFrameOf (data_len_of reader.header)) frames
  pub taken : Consumes reader.rest rest (frames_text frames)
  pub stops : StopsAt stop (record {
    len = data_len_of reader.header;
    count = seat.accepted + length frames;
    most = seat.frames;
    rest = rest;
    left = reader'.left;
    calls = past ++ seat'.calls.list;
  })
  pub reads : CountsReads stop reader.failures reader'.failures

-- why a client reads no more
abbrev pub StopsReading : List Act → Stop → ReaderState → ReaderState → StreamSeatValue → StreamSeatValue
    → List FrameText → Type 0
StopsReading = StopsReadingAt ClientStopsAt

-- some frames were taken and accepted, and then the client stopped
pub record Feeds (past : List Act) (stop : Stop) (reader reader' : ReaderState) (seat seat' : StreamSeatValue)
    (writer writer' : WriterState) : Type 0 where
  pub frames : List FrameText
  pub read : StopsReading past stop reader reader' seat seat' frames
  pub moved : StopsWith stop seat seat' writer writer' frames
  pub count : seat'.accepted ≡ seat.accepted + length frames

-- the client stopped feeding, or the journal is full, and an image may be in hand, or it holds a fault of a
-- delivery
abbrev pub FeedsOn : Fed → List Act → ReaderState → ReaderState → StreamSeatValue → StreamSeatValue
    → WriterState → WriterState → Type 0
FeedsOn (feds.Paused in_hand image) past reader reader' seat seat' writer writer' =
    Behind image seat' writer' (λ s w. HasInHand reader reader' seat s writer w (text_in in_hand))
FeedsOn (feds.Held stop) past reader reader' seat seat' writer writer' =
    Breaks stop reader reader' seat seat' writer writer'
FeedsOn (feds.Stopped stop) past reader reader' seat seat' writer writer' =
    Feeds past stop reader reader' seat seat' writer writer'

-- the frame in hand, if there is one, is of this chain's size
abbrev pub IsSized : ChainValue → Option (Arc Frame Global) → Type 0
IsSized chain in_hand = IfSome in_hand (λ f. (arc_value f).geometry ≡ chain.geometry)

-- the clock that gives these moments allows the stop, if there is one
abbrev pub AllowsFed : (Gives : ℕ → Type 0) → Fed → Type 0
AllowsFed Gives (feds.Paused in_hand image) = ⊤
AllowsFed Gives (feds.Held stop) = AllowsStop Gives stop
AllowsFed Gives (feds.Stopped stop) = AllowsStop Gives stop

-- the frame that is left in hand, and the writer, are for this chain, and so is the image in hand, with which
-- the writer can go on
abbrev pub IsSizedFed : ChainValue → WriterState → Fed → Type 0
IsSizedFed chain writer (feds.Paused in_hand image) =
    IsSized chain in_hand × IsWriterFor chain writer × IsLeft chain writer (Full image)
IsSizedFed chain writer (feds.Held stop) = ⊤
IsSizedFed chain writer (feds.Stopped stop) = ⊤
