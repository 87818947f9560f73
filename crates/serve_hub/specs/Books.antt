-- What a book keeps.
use Rattle.std.specs.Prelude.{ℕ, ◌+◌, ◌-◌, ◌≡◌, ◌≤◌, ◌<◌, ◌⊎◌, IsTrue, List, [], ◌∷◌, ◌++◌, length, map, replicate, slice_get}
use Rattle.std.specs.Prelude.{slice_set, slice_index_or, sum, sum_by, Option, Some, None, IsSomeAnd, MatchOption}
use Rattle.std.specs.Prelude.{Bool, ◌&&◌, false, true, if◌then◌else◌, nat_eq}
use Rattle.lease.specs.Lease.{LeaseValue}
use Rattle.serve_core.specs.declared.held.Held.{Held}
use Rattle.serve_core.specs.Bare.{Blank}
use Rattle.serve_core.specs.Desk.{IsRecorded, LeadsDesk, desk_state}
use Rattle.serve_core.specs.Events.{Transcript}
use Rattle.serve_core.specs.Schedule.{HasStream, ScheduleValue}
use Rattle.serve_core.specs.Setup.{StreamSpec}
use Rattle.serve_core.specs.Sound.{Sound}
use Rattle.serve_core.specs.States.{State}
use Rattle.serve_core.specs.Streams.{KeptStream}
use Rattle.serve_hub.specs.declared.entry.Act.{Act}
use Rattle.serve_hub.specs.declared.entry.Entry.{Entry}
use Rattle.serve_hub.specs.declared.entry.Seat.{Seat}
use Rattle.cbs_account.specs.declared.limits.TheConstants.{FEWEST_ENTRIES, MOST_ENTRIES}
use Rattle.serve_hub.specs.Journal.{IsJournal, entry_of, events_of, transcript_of, units_from}

pub record BookValue : Type 0 where
  -- the desk as it was when the book was opened
  pub opening : ScheduleValue
  -- the journal, the latest entry first
  pub past : List Entry
  pub desk : ScheduleValue
  -- the most entries
  pub limit : ℕ
  -- the units of each worker's bands
  pub units : List ℕ
  -- whether its epoch is being ended
  pub is_ending : Bool

-- a desk of no stream and no worker
abbrev pub no_schedule : ScheduleValue
no_schedule = record { clock = 0; quantum = 0; streams = []; workers = [] }

-- a book without entries, over a desk
abbrev pub opened_book : ScheduleValue → ℕ → BookValue
opened_book desk limit = record {
  opening = desk;
  past = [];
  desk = desk;
  limit = limit;
  units = replicate (length desk.workers) 0;
  is_ending = false;
}

-- a limit for a journal of so many streams
pub record IsLimit (streams limit : ℕ) : Type 0 where
  pub some : FEWEST_ENTRIES ≤ limit
  pub most : limit ≤ MOST_ENTRIES
  pub closes : streams + 2 ≤ limit

-- the state that a book was opened in
abbrev pub opening_of : BookValue → State Blank
opening_of b = desk_state b.opening

-- the specs of all streams, by number
abbrev pub specs_of : ScheduleValue → List StreamSpec
specs_of desk = map (λ stream. stream.state.spec) desk.streams

abbrev pub book_transcript : BookValue → Transcript Blank Blank
book_transcript b = transcript_of (specs_of b.desk) (opening_of b) b.past

abbrev pub one_out : Option Held → ℕ
one_out None = 0
one_out (Some held) = 1

abbrev pub one_open : KeptStream → ℕ
one_open stream = if stream.state.is_closed then 0 else 1

-- an entry is reserved for the settlement of each lease out, and for the close of each stream that isn't
-- closed
abbrev pub reserved : ScheduleValue → ℕ
reserved desk = sum_by one_out desk.workers + sum_by one_open desk.streams

abbrev pub taken : BookValue → ℕ
taken b = length b.past + reserved b.desk

-- how many entries the journal has left, beside those that are reserved
abbrev pub entries_left : BookValue → ℕ
entries_left b = b.limit - taken b

-- how many entries may be added: none but those that are reserved where the epoch is being ended
abbrev pub room : BookValue → ℕ
room b = if b.is_ending then 0 else entries_left b

-- worker w's units are those of its Stepped replies in the journal's transcript
abbrev pub AreUnits : BookValue → Type 0
AreUnits b = (w n : ℕ) → slice_get b.units w ≡ Some n → n ≡ units_from (opening_of b) w (book_transcript b)

-- the units that all streams were charged
abbrev pub charges : ScheduleValue → ℕ
charges desk = sum_by (λ stream. stream.state.charged) desk.streams

-- what a book always is
pub record IsBook (b : BookValue) : Type 0 where
  pub sound : Sound (desk_state b.desk)
  pub journal : IsJournal (specs_of b.desk) (opening_of b) b.past (desk_state b.desk)
  pub workers : length b.units ≡ length b.desk.workers
  pub units : AreUnits b
  -- all workers' units are what the streams were charged since the book was opened
  pub charges : sum b.units + charges b.opening ≡ charges b.desk
  pub fits : taken b ≤ b.limit

-- how many entries a journal has left, beside those that are reserved, and whether its epoch is being ended
pub record RoomValue : Type 0 where
  pub entries : ℕ
  pub is_ending : Bool

abbrev pub room_of : BookValue → RoomValue
room_of b = record { entries = entries_left b; is_ending = b.is_ending }

-- there is no place for another lease and its settlement, or the epoch is being ended
abbrev pub IsFull : RoomValue → Type 0
IsFull left = IsTrue left.is_ending ⊎ (left.entries < 2)

-- a book that was opened from this desk had this room
pub record HasHadRoom (opening : ScheduleValue) (left : RoomValue) : Type 0 where
  pub book : BookValue
  pub is_book : IsBook book
  pub opened : book.opening ≡ opening
  pub room : room_of book ≡ left

-- the deadline of a stream, if there was such a stream, and the moment of the clock, as a hub told them
pub record DeadlineValue : Type 0 where
  pub stream : ℕ
  pub deadline : Option ℕ
  pub clock : ℕ

-- the stream of this number has this deadline, or there is none
abbrev pub HasDeadline : ScheduleValue → (stream : ℕ) → Option ℕ → Type 0
HasDeadline desk stream deadline =
    MatchOption deadline (slice_get desk.streams stream ≡ None)
    (λ deadline. HasStream desk stream (λ stream. stream.state.account.deadline ≡ deadline))

-- in a book that was opened from this desk the stream of this number had this deadline, or there was none, at
-- this moment
pub record HasHadDeadline (opening : ScheduleValue) (told : DeadlineValue) : Type 0 where
  pub book : BookValue
  pub is_book : IsBook book
  pub opened : book.opening ≡ opening
  pub deadline : HasDeadline book.desk told.stream told.deadline
  pub clock : book.desk.clock ≡ told.clock

-- how many streams aren't over, and how many workers there are, as a hub told them
pub record LoadValue : Type 0 where
  pub streams : ℕ
  pub workers : ℕ

-- one where the stream isn't over (`IsOver`)
abbrev pub one_not_over : KeptStream → ℕ
one_not_over stream =
    if stream.state.is_closed && nat_eq stream.state.finished stream.state.accepted then 0 else 1

-- how many streams aren't over
abbrev pub not_over : ScheduleValue → ℕ
not_over desk = sum_by one_not_over desk.streams

-- a book that was opened from this desk had so many streams that weren't over, and so many workers
pub record HasHadLoad (opening : ScheduleValue) (told : LoadValue) : Type 0 where
  pub book : BookValue
  pub is_book : IsBook book
  pub opened : book.opening ≡ opening
  pub streams : not_over book.desk ≡ told.streams
  pub workers : length book.desk.workers ≡ told.workers

-- a book has the streams that it opened with, and perhaps more behind them
abbrev pub SpecsLaw : Type 0
SpecsLaw =
    (b : BookValue) → IsBook b → (more : List StreamSpec) × (specs_of b.desk ≡ specs_of b.opening ++ more)

-- one entry more, its own: the desk answers its events, and all else stays
pub record Appends (seat : Seat) (act : Act) (old new : BookValue) : Type 0 where
  pub book : new ≡ record old { past = entry_of seat act ∷ old.past; desk = new.desk }
  pub events : LeadsDesk old.desk (events_of (specs_of new.desk) (desk_state old.desk) seat act) new.desk
  pub fits : length new.past ≤ new.limit

-- from now on only what is reserved is entered
abbrev pub being_ended : BookValue → BookValue
being_ended b = record b { is_ending = true }

-- worker w has done bands of so many units more
abbrev pub with_units : (w units : ℕ) → BookValue → BookValue
with_units w units b = record b { units = slice_set b.units w (slice_index_or b.units w 0 + units) }

-- worker w holds a lease, and it is this one: of its stream, number and grant, with the chain and the first
-- band that are recorded for it
abbrev pub IsOut : BookValue → (w : ℕ) → LeaseValue → Type 0
IsOut b w lease =
    IsSomeAnd (slice_get b.desk.workers w) (λ h.
    IsSomeAnd h (λ held. HasStream b.desk held.stream (IsRecorded lease held)))
