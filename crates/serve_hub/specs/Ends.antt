-- What is left of a hub whose seats are all back.
use Rattle.std.specs.Prelude.{ℕ, ◌+◌, ◌*◌, ◌≡◌, ◌≢◌, ◌≤◌, ◌<◌, ◌⊎◌, ◌==◌, Bool, true, false, List, [], ◌∷◌}
use Rattle.std.specs.Prelude.{⊤, All, filter, length, map, reverse, sum_by, IsSomeAnd, Option, Some, None}
use Rattle.std.specs.List.{Any}
use Rattle.serve_core.specs.Bare.{Blank, measures_any, is_any_image}
use Rattle.serve_core.specs.Desk.{desk_state}
use Rattle.serve_core.specs.Reached.{IsReached, LeadsOver}
pub use Rattle.serve_core.specs.Retired.{AreFree}
use Rattle.serve_core.specs.Schedule.{HasStream, ScheduleValue}
use Rattle.serve_core.specs.Setup.{StreamSpec, cost}
use Rattle.serve_core.specs.States.{State}
use Rattle.serve_core.specs.Streams.{KeptStream}
use Rattle.serve_hub.specs.declared.ended.Fault.{Fault}
use Rattle.serve_hub.specs.declared.ended.Fault.TheVariants as faults
use Rattle.serve_hub.specs.declared.entry.Act.{Act}
use Rattle.serve_hub.specs.declared.entry.Act.TheVariants.{Leased, Offered}
use Rattle.serve_hub.specs.declared.entry.Entry.{Entry}
use Rattle.serve_hub.specs.declared.entry.Seat.{Seat}
use Rattle.serve_hub.specs.declared.entry.Seat.TheVariants.{Stream, Worker}
use Rattle.serve_hub.specs.declared.moments.Moments.{Moments}
use Rattle.serve_hub.specs.Books.{BookValue, IsBook, book_transcript, opening_of, specs_of}
use Rattle.serve_hub.specs.Journal.{clock_in}
use Rattle.serve_hub.specs.Seats.{HubValue, StreamRest, StreamSeatValue, UnlockedValue, WorkSeatValue}
use Rattle.serve_hub.specs.Seats.{collected_by, left_by, spec_told}

abbrev pub is_same_seat : Seat → Seat → Bool
is_same_seat (Stream a) (Stream b) = a == b
is_same_seat (Worker a) (Worker b) = a == b
is_same_seat a b = false

-- what a seat did, by the journal with the oldest entry first
abbrev pub acts_of : Seat → List Entry → List Act
acts_of seat journal = map (λ e. e.act) (filter (λ e. is_same_seat seat e.seat) journal)

-- each seat's entries in the journal are its own list of calls, in order
abbrev pub AreStreamCalls : List Entry → List StreamSeatValue → Type 0
AreStreamCalls journal seats = All (λ s. acts_of (Stream s.number) journal ≡ s.calls.list) seats

abbrev pub AreWorkCalls : List Entry → List WorkSeatValue → Type 0
AreWorkCalls journal seats = All (λ s. acts_of (Worker s.number) journal ≡ s.calls.list) seats

-- stream s had a frame accepted
abbrev pub IsOfferOf : (s : ℕ) → Seat → Act → Type 0
IsOfferOf s (Stream n) (Offered tick number) = n ≡ s
IsOfferOf s seat act = ⊥

-- the clock after a call, where it was this before
abbrev pub clock_after : ℕ → Seat → Act → ℕ
clock_after clock (Stream s) (Offered (Some moment) number) = moment
clock_after clock seat act = clock

-- by a journal with the latest entry first, wherever stream s had a frame accepted the clock had reached the
-- first of these moments
abbrev pub ClockReached : (s : ℕ) → Option Moments → List StreamSpec → (opening : State Blank) → List Entry
    → Type 0
ClockReached s moments specs opening [] = ⊤
ClockReached s moments specs opening (e ∷ past) =
    ClockReached s moments specs opening past
    × (IsOfferOf s e.seat e.act → IsSomeAnd moments (λ m. m.first ≤ clock_in specs opening (e ∷ past)))

-- and so for each of these seats
abbrev pub ClocksReached : BookValue → List StreamSeatValue → Type 0
ClocksReached b seats =
    All (λ s. ClockReached s.number s.moments (specs_of b.desk) (opening_of b) b.past) seats

-- how many calls the seats' lists have
abbrev pub calls_in : List StreamSeatValue → List WorkSeatValue → ℕ
calls_in streams workers =
    sum_by (λ s. length s.calls.list) streams + sum_by (λ s. length s.calls.list) workers

-- there are as many seats as streams and workers
abbrev pub AreThere : (all_streams all_workers : ℕ) → List StreamSeatValue → List WorkSeatValue → Type 0
AreThere all_streams all_workers streams workers =
    (length streams ≡ all_streams) × (length workers ≡ all_workers)

-- there are not
abbrev pub IsMissing : (all_streams all_workers : ℕ) → List StreamSeatValue → List WorkSeatValue → Type 0
IsMissing all_streams all_workers streams workers =
    (length streams ≢ all_streams) ⊎ (length workers ≢ all_workers)

abbrev pub is_lease : Act → Bool
is_lease (Leased s number grant) = true
is_lease act = false

abbrev pub begins_with_lease : List Act → Bool
begins_with_lease [] = false
begins_with_lease (act ∷ acts) = is_lease act

-- the latest call of a worker is a lease, which is still out
abbrev pub HasLeaseOut : WorkSeatValue → Type 0
HasLeaseOut seat = begins_with_lease (reverse seat.calls.list) ≡ true

-- no worker has
abbrev pub NoLeaseOut : List WorkSeatValue → Type 0
NoLeaseOut workers = All (λ s. ¬ HasLeaseOut s) workers

-- a book opened from this desk, of so many workers, which a legal transcript of a setup led to
pub record IsOpening (opening of_book : ScheduleValue) (workers : ℕ) : Type 0 where
  pub same : of_book ≡ opening
  pub reached : IsReached measures_any is_any_image (desk_state opening)
  pub each_worker : length opening.workers ≡ workers

-- the book opened from this desk, and its journal's transcript leads from there to where the desk is
pub record IsHistory (opening : ScheduleValue) (b : BookValue) : Type 0 where
  pub same : b.opening ≡ opening
  pub leads : LeadsOver measures_any is_any_image (desk_state opening) (book_transcript b) (desk_state b.desk)

-- what is left of a hub: its book, and what the seats of its streams leave
pub record EndedValue : Type 0 where
  pub book : BookValue
  pub streams : List StreamRest

-- a hub can open from what is left of it
pub record IsEnded (e : EndedValue) : Type 0 where
  pub free : AreFree e.book.desk.workers
  pub each_stream : length e.streams ≡ length e.book.desk.streams
  pub reached : IsReached measures_any is_any_image (desk_state e.book.desk)

-- each of so many streams has its seat here, and each of so many workers
abbrev pub HaveStreams : ℕ → List StreamSeatValue → Type 0
HaveStreams count seats = (n : ℕ) → n < count → Any (λ s. s.number ≡ n) seats

abbrev pub HaveWorkers : ℕ → List WorkSeatValue → Type 0
HaveWorkers count seats = (n : ℕ) → n < count → Any (λ s. s.number ≡ n) seats

-- the seat's stream: it is served with what the seat tells, and as many of its frames were accepted and
-- collected as the seat tells
pub record IsStreamOf (seat : StreamSeatValue) (stream : KeptStream) : Type 0 where
  pub spec : stream.state.spec ≡ spec_told seat
  pub accepted : stream.state.accepted ≡ seat.accepted
  pub collected : stream.state.collected ≡ collected_by seat

abbrev pub AreStreamsOf : ScheduleValue → List StreamSeatValue → Type 0
AreStreamsOf desk seats = All (λ s. HasStream desk s.number (IsStreamOf s)) seats

-- a book of so many streams and workers, with a journal of at most so many entries, agrees with its seats,
-- one for each: each seat's list is its entries of the journal, in order; the streams are as their seats
-- tell, and no worker holds a lease
pub record Agree (all_streams all_workers most : ℕ) (b : BookValue) (streams : List StreamSeatValue)
    (workers : List WorkSeatValue) : Type 0 where
  pub limit : b.limit ≡ most
  pub all : length b.desk.streams ≡ all_streams
  pub desk_workers : length b.desk.workers ≡ all_workers
  pub there : AreThere all_streams all_workers streams workers
  pub each_stream : HaveStreams all_streams streams
  pub each_worker : HaveWorkers all_workers workers
  pub of_streams : AreStreamCalls (reverse b.past) streams
  pub of_workers : AreWorkCalls (reverse b.past) workers
  pub kept : AreStreamsOf b.desk streams
  pub clock_reached : ClocksReached b streams
  pub free : AreFree b.desk.workers

-- the first that is wrong with the seats, if anything is: one is missing, a lease is out, or else they don't
-- agree with the book
abbrev pub IsFault : Option Fault → (all_streams all_workers most : ℕ) → BookValue → List StreamSeatValue
    → List WorkSeatValue → Type 0
IsFault (Some faults.SeatMissing) all_streams all_workers most b streams workers =
    IsMissing all_streams all_workers streams workers
IsFault (Some faults.LeaseOut) all_streams all_workers most b streams workers =
    AreThere all_streams all_workers streams workers × ¬ NoLeaseOut workers
IsFault (Some faults.Differs) all_streams all_workers most b streams workers =
    AreThere all_streams all_workers streams workers × NoLeaseOut workers
    × ¬ Agree all_streams all_workers most b streams workers
IsFault None all_streams all_workers most b streams workers =
    NoLeaseOut workers × Agree all_streams all_workers most b streams workers

-- a stream was charged at least what its collected frames cost, and at most what its accepted ones do
pub record IsCharged (stream : KeptStream) : Type 0 where
  pub least : stream.state.collected * cost stream.state.spec ≤ stream.state.charged
  pub most : stream.state.charged ≤ stream.state.accepted * cost stream.state.spec

-- what is left of a hub that opened from this desk, whose seats are all back: they agree with its book, and
-- leave it what they kept
pub record IsEndOf (opening : ScheduleValue) (hub : HubValue) (streams : List StreamSeatValue)
    (workers : List WorkSeatValue) (e : EndedValue) : Type 0 where
  pub agree : Agree (length e.book.desk.streams) hub.workers hub.limit e.book streams workers
  -- each entry is in just one list
  pub once : length e.book.past ≡ calls_in streams workers
  pub settled : NoLeaseOut workers
  pub is_book : IsBook e.book
  pub history : IsHistory opening e.book
  pub all_workers : length e.book.desk.workers ≡ hub.workers
  pub charges : All IsCharged e.book.desk.streams
  pub left : e.streams ≡ map left_by streams

-- why a hub isn't ended that opened from this desk: it comes back, with the book that stood under its lock
pub record IsUnended (opening : ScheduleValue) (was : HubValue) (streams : List StreamSeatValue)
    (workers : List WorkSeatValue) (fault : Fault) (unlocked : UnlockedValue) : Type 0 where
  pub hub : unlocked.hub ≡ was
  pub is_book : IsBook unlocked.book
  pub opened : unlocked.book.opening ≡ opening
  pub more : length opening.streams ≤ length unlocked.book.desk.streams
  pub fits_not : IsFault (Some fault) (length unlocked.book.desk.streams) was.workers was.limit unlocked.book
      streams workers
