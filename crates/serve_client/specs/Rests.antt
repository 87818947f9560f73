-- What a client has done where the journal is full, and how it goes on in the next epoch.
use Rattle.std.specs.Prelude.{ℕ, ◌+◌, ◌-◌, ◌≡◌, ◌≢◌, ◌≤◌, ⊤, false, List, [], ◌++◌, Option, Some, None}
use Rattle.std.specs.Prelude.{IfSome, IsSome, length}
use Rattle.std.specs.declared.alloc.Global.{Global}
use Rattle.std.specs.declared.sync.Arc.{Arc}
use Rattle.frame_view.specs.declared.frame.Frame.{Frame}
use Rattle.filters.specs.Chain.{ChainValue}
use Rattle.y4m_header.specs.Header.{HeaderValue}
use Rattle.y4m_header.specs.StreamText.{FrameText}
use Rattle.y4m_header.specs.declared.limits.TheConstants.{MOST_FRAMES}
use Rattle.y4m_stream.specs.declared.reader.Phase.TheVariants.{Open}
use Rattle.y4m_stream.specs.Reader.{IsOfHeader, ReaderState}
use Rattle.y4m_stream.specs.Served.{IsHeaderOfImages}
use Rattle.y4m_stream.specs.Writer.{IsOpenedFor, IsWriterFor, WriterState}
use Rattle.serve_hub.specs.declared.entry.Act.{Act}
use Rattle.serve_hub.specs.Seats.{StreamSeatValue, spec_told}
use Rattle.serve_client.specs.declared.buffers.Buffers.{Buffers}
use Rattle.serve_client.specs.declared.course.Course as code
use Rattle.serve_client.specs.declared.course.Course.TheVariants as courses
use Rattle.serve_client.specs.declared.serving.Step.{Step}
use Rattle.serve_client.specs.declared.serving.Step.TheVariants as steps
use Rattle.serve_client.specs.declared.stop.Stop.{Stop}
use Rattle.serve_client.specs.declared.stop.Stop.TheVariants.{Torn, Whole}
use Rattle.serve_core.specs.declared.collected.Collected.{Collected}
use Rattle.serve_client.specs.Clients.{ClientStart, IsClosedUnlessTorn, collections_in}
use Rattle.serve_client.specs.Hands.{Behind, CanPutOn, IsBegunPair, IsPairOf, counted_with, with_kept}
use Rattle.serve_client.specs.ClientInside.{Accounted, AreBuffersFor, Feeds, HasInHand, Holds, IsCounted}
use Rattle.serve_client.specs.ClientInside.{IsSized, IsUseful, ShowsClose, Stays, Takes, text_in}
use Rattle.serve_client.specs.Sends.{IsSent, IsSpoilt, Serves}

-- what a client does next
pub data CourseValue : Type 0 where
  -- it writes on with the image in hand, if there is one; offers the frame in hand, if there is one, and
  -- reads on
  Feeding : (in_hand : Option FrameText) (image : Option Collected) → CourseValue
  -- it offers the frame in hand, if there is one, and reads on, but an image couldn't be delivered, for this
  -- reason, and no more are written
  Holding : (in_hand : Option FrameText) (held : Stop) → CourseValue
  -- no more frames are read, for this reason; it writes on with the image in hand, if there is one, and
  -- writes the images that are left
  Draining : (stop : Stop) (image : Option Collected) → CourseValue
  -- no more frames are read, for this reason, and it throws the images away
  Discarding : (stop : Stop) → CourseValue

abbrev pub course_of : code.Course → CourseValue
course_of (courses.Feeding in_hand image) = Feeding (text_in in_hand) image
course_of (courses.Holding in_hand held) = Holding (text_in in_hand) held
course_of (courses.Draining stop image) = Draining stop image
course_of (courses.Discarding stop) = Discarding stop

-- the fault that a client keeps, or Whole
abbrev pub stop_kept : CourseValue → Stop
stop_kept (Feeding in_hand image) = Whole
stop_kept (Holding in_hand held) = held
stop_kept (Draining stop image) = stop
stop_kept (Discarding stop) = stop

-- the stop that a client keeps, if it keeps one
abbrev pub course_stop : CourseValue → Option Stop
course_stop (Feeding in_hand image) = None
course_stop (Holding in_hand held) = Some held
course_stop (Draining stop image) = Some stop
course_stop (Discarding stop) = Some stop

abbrev pub course_stop_before : Option code.Course → Option Stop
course_stop_before None = None
course_stop_before (Some course) = course_stop (course_of course)

-- the image that it has in hand, if there is one
abbrev pub course_image : CourseValue → Option Collected
course_image (Feeding in_hand image) = image
course_image (Holding in_hand held) = None
course_image (Draining stop image) = image
course_image (Discarding stop) = None

abbrev pub image_before : Option code.Course → Option Collected
image_before None = None
image_before (Some course) = course_image (course_of course)

abbrev pub step_image : Step → Option Collected
step_image (steps.Paused course) = course_image (course_of course)
step_image (steps.Done stop) = None

-- the stop that it keeps where it paused, or that it tells
abbrev pub step_stop : Step → Option Stop
step_stop (steps.Paused course) = course_stop (course_of course)
step_stop (steps.Done stop) = Some stop

-- a client whose header line was written: its reader and its writer, what it does next, and how many of its
-- frames were accepted, and how many of these its seat has no more
pub record BegunValue : Type 0 where
  pub reader : ReaderState
  pub writer : WriterState
  pub course : CourseValue
  pub accepted : ℕ
  pub collected : ℕ

-- what is left to do of a stream
pub data RestValue : Type 0 where
  -- all: nothing was read but the header, and nothing written
  Unbegun : (reader : ReaderState) (contents : Option (List ℕ)) (failures : ℕ) → RestValue
  Begun : (begun : BegunValue) → RestValue

abbrev pub reader_in : RestValue → ReaderState
reader_in (Unbegun reader contents failures) = reader
reader_in (Begun begun) = begun.reader

abbrev pub rest_stop : RestValue → Option Stop
rest_stop (Unbegun reader contents failures) = None
rest_stop (Begun begun) = course_stop begun.course

abbrev pub rest_image : RestValue → Option Collected
rest_image (Unbegun reader contents failures) = None
rest_image (Begun begun) = course_image begun.course

abbrev pub accepted_in : RestValue → ℕ
accepted_in (Unbegun reader contents failures) = 0
accepted_in (Begun begun) = begun.accepted

abbrev pub collected_in : RestValue → ℕ
collected_in (Unbegun reader contents failures) = 0
collected_in (Begun begun) = begun.collected

abbrev pub delivered_in : RestValue → ℕ
delivered_in (Unbegun reader contents failures) = 0
delivered_in (Begun begun) = begun.writer.frames

-- what a client had when its header line was written
pub record Outset : Type 0 where
  pub reader : ReaderState
  pub seat : StreamSeatValue
  pub writer : WriterState

abbrev pub as_open : StreamSeatValue → StreamSeatValue
as_open seat = record seat { is_closed = false }

-- these frames were taken and accepted, and the one behind them is in hand, if there is one; images went out
-- until this stop, which is held
pub record Spoils (held : Stop) (o : Outset) (reader : ReaderState) (seat : StreamSeatValue)
    (writer : WriterState) (in_hand : Option FrameText) : Type 0 where
  pub before : ReaderState
  pub frames : List FrameText
  pub read : Takes o.reader before frames
  pub count : seat.accepted ≡ o.seat.accepted + length frames
  pub most : seat.frames ≡ o.seat.frames
  pub is_closed : seat.is_closed ≡ o.seat.is_closed
  pub sent : IsSent held o.seat.chain frames o.writer writer
  pub torn : held ≡ Torn → IsSome seat.torn
  pub spoilt : IsUseful held → ⊥
  pub holds : Holds before reader in_hand
  pub is_open : reader.phase ≡ Open

-- a client stopped, for this reason, which is no end, and writes no image any more
abbrev pub HasStopped : Stop → List Act → Outset → ReaderState → StreamSeatValue → WriterState → Type 0
HasStopped stop past o reader seat writer =
    (stop ≢ Whole) × IsSpoilt writer seat × Serves past stop o.reader reader o.seat seat o.writer writer

-- how far a client came from its outset, by what it does next; where it reads no more, it has closed its
-- stream, and where an image is in hand, how far it had come
-- before that was begun
abbrev pub IsAt : CourseValue → List Act → Outset → ReaderState → StreamSeatValue → WriterState → Type 0
IsAt (Feeding in_hand image) past o reader seat writer =
    Behind image seat writer (λ s w. HasInHand o.reader reader o.seat s o.writer w in_hand)
IsAt (Holding in_hand held) past o reader seat writer = Spoils held o reader seat writer in_hand
IsAt (Draining stop image) past o reader seat writer =
    IsUseful stop × Behind image seat writer (λ s w.
    Feeds past stop o.reader reader o.seat (as_open s) o.writer w) × IsClosedUnlessTorn seat
IsAt (Discarding stop) past o reader seat writer =
    HasStopped stop past o reader seat writer × IsClosedUnlessTorn seat

abbrev pub IsBefore : Option code.Course → List Act → Outset → ReaderState → StreamSeatValue → WriterState
    → Type 0
IsBefore None past o reader seat writer = HasInHand o.reader reader o.seat seat o.writer writer None
IsBefore (Some course) past o reader seat writer = IsAt (course_of course) past o reader seat writer

-- the client paused, or it is done, and no image is left at its seat, which is closed
abbrev pub Comes : Step → List Act → Outset → ReaderState → StreamSeatValue → WriterState → Type 0
Comes (steps.Paused course) past o reader seat writer = IsAt (course_of course) past o reader seat writer
Comes (steps.Done stop) past o reader seat writer =
    Serves past stop o.reader reader o.seat seat o.writer writer × (seat.kept ≡ []) × IsClosedUnlessTorn seat

-- none of the stream's frames was accepted yet, and it is open
pub record IsFresh (seat : StreamSeatValue) : Type 0 where
  pub accepted : seat.accepted ≡ 0
  pub kept : seat.kept ≡ []
  pub is_open : seat.is_closed ≡ false

pub record IsOutset (o : Outset) : Type 0 where
  pub fresh : IsFresh o.seat
  pub writing : o.writer.failed ≡ false
  pub none : o.writer.frames ≡ 0
  pub whole : o.writer.part ≡ 0

-- a client writes no image on this course
abbrev pub IsSilent : Option code.Course → Type 0
IsSilent (Some (courses.Holding in_hand held)) = ⊤
IsSilent (Some (courses.Discarding stop)) = ⊤
IsSilent course = ⊥

-- what a client needs to go on
pub record CanFeed (in_hand : Option (Arc Frame Global)) (reader : ReaderState) (seat : StreamSeatValue)
    (writer : WriterState) (buffers : Buffers) : Type 0 where
  pub is_open : reader.phase ≡ Open
  pub accounted : Accounted seat writer
  pub size : IsWriterFor seat.chain writer
  pub memory : AreBuffersFor seat.chain buffers
  pub frame : IsSized seat.chain in_hand
  pub past : List Act
  pub counted : IsCounted past seat
  pub before : ReaderState
  pub holds : Holds before reader (text_in in_hand)

-- the same, where a stop is held
pub record CanHold (in_hand : Option (Arc Frame Global)) (held : Stop) (reader : ReaderState)
    (seat : StreamSeatValue) : Type 0 where
  pub is_open : reader.phase ≡ Open
  pub frame : IsSized seat.chain in_hand
  pub is_unclosed : seat.is_closed ≡ false
  pub spoilt : IsUseful held → ⊥

pub record CanDrain (seat : StreamSeatValue) (writer : WriterState) : Type 0 where
  pub few : writer.frames + length seat.kept ≤ MOST_FRAMES
  pub writing : writer.failed ≡ false
  pub none : writer.part ≡ 0
  pub size : IsWriterFor seat.chain writer

-- what it needs where the image of this pair is in hand
pub record CanFeedBehind (in_hand : Option (Arc Frame Global)) (pair : Collected) (reader : ReaderState)
    (seat : StreamSeatValue) (writer : WriterState) (buffers : Buffers) : Type 0 where
  pub before : WriterState
  pub begun : IsBegunPair seat.chain pair before writer
  pub can : CanFeed in_hand reader (with_kept pair seat) before buffers
  pub sized : IsPairOf seat.chain pair
  pub left : CanPutOn writer pair

pub record CanDrainBehind (pair : Collected) (seat : StreamSeatValue) (writer : WriterState) : Type 0 where
  pub before : WriterState
  pub begun : IsBegunPair seat.chain pair before writer
  pub can : CanDrain (with_kept pair seat) before
  pub left : CanPutOn writer pair

abbrev pub CanGoOn : Option code.Course → ReaderState → StreamSeatValue → WriterState → Buffers → Type 0
CanGoOn None reader seat writer buffers = CanFeed None reader seat writer buffers
CanGoOn (Some (courses.Feeding in_hand None)) reader seat writer buffers =
    CanFeed in_hand reader seat writer buffers
CanGoOn (Some (courses.Feeding in_hand (Some pair))) reader seat writer buffers =
    CanFeedBehind in_hand pair reader seat writer buffers
CanGoOn (Some (courses.Holding in_hand held)) reader seat writer buffers = CanHold in_hand held reader seat
CanGoOn (Some (courses.Draining stop None)) reader seat writer buffers = CanDrain seat writer
CanGoOn (Some (courses.Draining stop (Some pair))) reader seat writer buffers =
    CanDrainBehind pair seat writer
CanGoOn (Some (courses.Discarding stop)) reader seat writer buffers = stop ≢ Whole

-- the frame in hand is for a chain whose frames are the reader's
pub record IsInHandOf (reader : ReaderState) (in_hand : Option (Arc Frame Global)) : Type 0 where
  pub chain : ChainValue
  pub header : IsOfHeader reader.header chain.geometry
  pub sized : IsSized chain in_hand

-- the memory that a client holds which reads on, and the frame and the image in hand, are for a chain of
-- these sizes
pub record HasMemory (reader : ReaderState) (writer : WriterState) (buffers : Buffers)
    (in_hand : Option (Arc Frame Global)) (image : Option Collected) : Type 0 where
  pub chain : ChainValue
  pub header : IsOfHeader reader.header chain.geometry
  pub size : IsWriterFor chain writer
  pub memory : AreBuffersFor chain buffers
  pub sized : IsSized chain in_hand
  pub left : IfSome image (λ pair. IsPairOf chain pair × CanPutOn writer pair)

abbrev pub HasMemoryFor : ReaderState → WriterState → Buffers → code.Course → Type 0
HasMemoryFor reader writer buffers (courses.Feeding in_hand image) =
    HasMemory reader writer buffers in_hand image
HasMemoryFor reader writer buffers (courses.Holding in_hand held) = IsInHandOf reader in_hand
HasMemoryFor reader writer buffers (courses.Draining stop image) = IfSome image (CanPutOn writer)
HasMemoryFor reader writer buffers (courses.Discarding stop) = ⊤

abbrev pub HasMemoryAt : ReaderState → WriterState → Buffers → Step → Type 0
HasMemoryAt reader writer buffers (steps.Paused course) = HasMemoryFor reader writer buffers course
HasMemoryAt reader writer buffers (steps.Done stop) = ⊤

-- the stream's offers are as many as its frames that were accepted, and no more images were put than were
-- collected, and than were before an answer was first told Torn. A close is among the calls only where the
-- seat is closed
pub record IsTallied (past : List Act) (first seat : StreamSeatValue) (writer : WriterState) : Type 0 where
  pub number : seat.number ≡ first.number
  pub spec : spec_told seat ≡ spec_told first
  pub offers : IsCounted past seat
  pub closes : ShowsClose past seat
  pub images : writer.frames ≤ collections_in (past ++ seat.calls.list)
  pub before : seat.before ≡ first.before + collections_in past
  pub torn : first.torn ≡ None → IfSome seat.torn (λ n. first.before + writer.frames ≤ n)

-- nothing was done yet, whatever the epoch
pub record IsUnbegun (start : ClientStart) (past : List Act) (seat : StreamSeatValue) (reader : ReaderState)
    (contents : Option (List ℕ)) (failures : ℕ) : Type 0 where
  pub same_reader : reader ≡ start.reader
  pub same_contents : contents ≡ start.before
  pub same_failures : failures ≡ start.failures
  pub is_open : start.reader.phase ≡ Open
  pub first : IsFresh start.seat
  pub fresh : IsFresh seat
  pub stays : Stays start.seat seat
  pub offers : IsCounted past seat
  pub closes : ShowsClose past seat
  pub before : seat.before ≡ start.seat.before + collections_in past

-- the header line was written, and then the client came so far
pub record IsBegun (start : ClientStart) (past : List Act) (seat : StreamSeatValue) (begun : BegunValue)
    : Type 0 where
  pub shown : HeaderValue
  pub opened : WriterState
  pub header : IsHeaderOfImages start.seat.chain start.reader.header shown
  pub is_opened : IsOpenedFor shown start.before start.failures opened
  pub first : IsFresh start.seat
  pub at : IsAt begun.course past (record { reader = start.reader; seat = start.seat; writer = opened })
      begun.reader seat begun.writer
  pub same_header : begun.reader.header ≡ start.reader.header
  pub tally : IsTallied past start.seat seat (counted_with (course_image begun.course) begun.writer)
  pub accepted : begun.accepted ≡ seat.accepted
  -- the seat keeps the others; an image in hand is of one that was collected
  pub collected : begun.collected ≡ seat.accepted - length seat.kept

-- the header line was written, and the client goes on from here
pub record IsRunning (course : Option code.Course) (start : ClientStart) (past : List Act)
    (reader : ReaderState) (seat : StreamSeatValue) (writer : WriterState) : Type 0 where
  pub shown : HeaderValue
  pub opened : WriterState
  pub header : IsHeaderOfImages start.seat.chain start.reader.header shown
  pub is_opened : IsOpenedFor shown start.before start.failures opened
  pub first : IsFresh start.seat
  pub before : IsBefore course past (record { reader = start.reader; seat = start.seat; writer = opened })
      reader seat writer
  pub same_header : reader.header ≡ start.reader.header
  pub tally : IsTallied past start.seat seat (counted_with (image_before course) writer)

-- this is left to do of the stream that began so: its seat of this epoch is this one, and its seats of the
-- epochs before made these calls
abbrev pub IsRestOf : ClientStart → List Act → StreamSeatValue → RestValue → Type 0
IsRestOf start past seat (Unbegun reader contents failures) =
    IsUnbegun start past seat reader contents failures
IsRestOf start past seat (Begun begun) = IsBegun start past seat begun

-- this is left to do of the seat's stream
abbrev pub IsRest : StreamSeatValue → RestValue → Type 0
IsRest seat rest = (start : ClientStart) × (past : List Act) × IsRestOf start past seat rest
