-- What contracts inside the crate say of a session from one epoch to the next.
use Rattle.std.specs.Prelude.{ℕ, suc, ◌≡◌, ◌≢◌, ◌≤◌, ◌<◌, ◌^◌, ⊤, All, Bool, List, [], ◌∷◌}
use Rattle.std.specs.Prelude.{IsFalse, IsSome, IsTrue, Option, None, length, map}
use Rattle.std.specs.List.{AllByRecursion}
use Rattle.std.specs.Vec.{vec_capacity, vec_len}
use Rattle.y4m_stream.specs.Reader.{IsOfHeader, ReaderState}
use Rattle.serve_core.specs.Desk.{desk_state}
use Rattle.serve_core.specs.Schedule.{ScheduleValue, opened_schedule}
use Rattle.serve_core.specs.Setup.{Setup}
use Rattle.serve_hub.specs.declared.entry.Entry.{Entry}
use Rattle.serve_hub.specs.declared.limits.TheConstants.{MOST_SEATS}
use Rattle.serve_hub.specs.Books.{specs_of}
use Rattle.serve_hub.specs.Ends.{AreStreamsOf, IsCharged}
use Rattle.serve_hub.specs.Journal.{IsJournal}
use Rattle.serve_hub.specs.Seats.{StreamSeatValue, left_by, opened_streams}
use Rattle.serve_client.specs.Clients.{ClientStart}
use Rattle.serve_work.specs.declared.session.interval.Interval.{Interval}
use Rattle.serve_work.specs.declared.session.opening.Opening.{Opening}
use Rattle.serve_work.specs.declared.session.places.Places.{Places}
use Rattle.serve_work.specs.declared.session.room.Room.{Room}
use Rattle.serve_work.specs.History.{EpochValue, IsHistory, OpensHub, Terms, epoch_of, journal_of}
use Rattle.serve_work.specs.Sessions.{AllTimed, AreInTurn, IsJustEnded, OpensInTurn, starts_of}
use Rattle.serve_work.specs.Live.{Waiting}
use Rattle.serve_work.specs.SessionInside.{AllBegin, AllStand, AreAllOver, AreAllowed, HeldValue, held_with}

-- streams whose seats have the numbers from this one on
abbrev pub AreFrom : ℕ → List ClientStart → Type 0
AreFrom first [] = ⊤
AreFrom first (start ∷ starts) = (start.seat.number ≡ first) × AreFrom (suc first) starts

-- the stream's frames are those of its chain
abbrev pub IsSizedStart : ClientStart → Type 0
IsSizedStart start = IsOfHeader start.reader.header start.seat.chain.geometry

-- what a session begins with: the schedule that it opens, its streams, and the most entries of an epoch's
-- journal
pub record Beginning : Type 0 where
  pub schedule : ScheduleValue
  pub starts : List ClientStart
  pub limit : ℕ

abbrev pub beginning_of : {W : Type 0} (contents : W → Option (List ℕ)) (failures : W → ℕ) → Setup
    → (limit : ℕ) → List (ReaderState × W) → Beginning
beginning_of contents failures setup limit inputs = record {
  schedule = opened_schedule setup;
  starts = starts_of contents failures (opened_streams limit 0 setup.streams) inputs;
  limit = limit;
}

pub record IsBeginning (b : Beginning) : Type 0 where
  pub numbers : AreFrom 0 b.starts
  pub sized : AllByRecursion IsSizedStart b.starts
  pub few : length b.starts < 2 ^ 32
  pub each : length b.starts ≡ length b.schedule.streams

-- a journal leads from one schedule to another, of the same streams
pub record LeadsTo (first : ScheduleValue) (journal : List Entry) (last : ScheduleValue) : Type 0 where
  pub is_journal : IsJournal (specs_of first) (desk_state first) journal (desk_state last)
  pub specs : specs_of last ≡ specs_of first

-- a session that began so stands between two epochs, behind these, the latest of which just ended: each stream
-- where its client came to, with its seat of that epoch, whose journal had the session's limit; none is told
-- yet, and there is a place for each that is. Where none waits, all are over. Another may open in turn, where a
-- stream waits for it and the session isn't cut
pub record IsBetween {R W : Type 0} (b : Beginning) (epochs : List EpochValue) (now : Interval R W)
    : Type 0 where
  pub begun : IsBeginning b
  pub before : List EpochValue
  pub latest : epochs ≡ epoch_of now.ended [] ∷ before
  pub in_turn : AreInTurn b.limit b.schedule now.waits epochs
  pub next : IsFalse now.is_cut → IsTrue now.waits
      → OpensInTurn b.limit b.schedule now.ended.book.desk epochs
  pub past : LeadsTo b.schedule (journal_of epochs) now.ended.book.desk
  pub helds : List HeldValue
  pub stand : AllStand (journal_of epochs) b.starts helds
  pub streams : now.streams.items ≡ map (λ held. held.stream) helds
  pub seats : now.ended.streams ≡ map left_by (map (λ held. held.seat) helds)
  pub kept : AreStreamsOf now.ended.book.desk (map (λ held. held.seat) helds)
  pub charges : All IsCharged now.ended.book.desk.streams
  pub limit : now.ended.book.limit ≡ b.limit
  pub untold : now.served.items ≡ []
  pub places : length helds ≤ vec_capacity now.served
  pub over : IsFalse now.waits → AreAllOver now.streams.items

-- a session stands so between two epochs, whatever it began with
abbrev pub IsBetweenEpochs : {R W : Type 0} → Interval R W → Type 0
IsBetweenEpochs now = (b : Beginning) × (epochs : List EpochValue) × IsBetween b epochs now

-- a session that began so serves by these terms
pub record IsByTerms (terms : Terms) (b : Beginning) : Type 0 where
  pub limit : b.limit ≡ terms.limit
  pub together : IsSome terms.together
  pub opens : OpensHub terms [] b.schedule

-- the epochs of a session that began so were told, each where it ended. Each frame of them was offered at one of
-- the moments that the clock may give, by the journal of each and by that of all
pub record AreTold (stands : List EpochValue → List Waiting → Type 0) (terms : Terms) (Gives : ℕ → Type 0)
    (b : Beginning) (epochs : List EpochValue) : Type 0 where
  pub told : stands epochs []
  pub by_terms : IsByTerms terms b
  pub at_end : AllByRecursion IsJustEnded epochs
  pub history : IsHistory terms Gives epochs
  pub moments : AllTimed Gives b.schedule (journal_of epochs) b.starts

-- so a session stands between two epochs that began so
abbrev pub StandsBetween : {R W : Type 0} (stands : List EpochValue → List Waiting → Type 0) (terms : Terms)
    (Gives : ℕ → Type 0) → Beginning → Interval R W → Type 0
StandsBetween stands terms Gives b now =
    (epochs : List EpochValue) × AreTold stands terms Gives b epochs × IsBetween b epochs now

-- the same, whatever it began with
abbrev pub StandsSo : {R W : Type 0} (stands : List EpochValue → List Waiting → Type 0) (terms : Terms)
    (Gives : ℕ → Type 0) → Interval R W → Type 0
StandsSo stands terms Gives now = (b : Beginning) × StandsBetween stands terms Gives b now

-- and later so, by what is told then, with no other stops than the clock allows
pub record GoesLater {R W : Type 0} (stood stands : List EpochValue → List Waiting → Type 0) (terms : Terms)
    (Gives : ℕ → Type 0) (old now : Interval R W) : Type 0 where
  pub between : (b : Beginning) → StandsBetween stood terms Gives b old
      → StandsBetween stands terms Gives b now
  pub stops : AreAllowed Gives old.streams.items → AreAllowed Gives now.streams.items

-- an empty ledger of this name, with a part for each seat that there can be, can name an epoch that opens
-- from this schedule
pub record CanName (blank_name blank_parts : ℕ) (from : ScheduleValue) (name parts : ℕ)
    (opening : ScheduleValue) : Type 0 where
  pub name_is : blank_name ≡ name
  pub parts_are : blank_parts ≡ parts
  pub enough : blank_parts ≡ MOST_SEATS
  pub opens : from ≡ opening

-- the seat has made no call
abbrev pub HasNoCalls : StreamSeatValue → Type 0
HasNoCalls seat = (seat.calls.list ≡ []) × (seat.moments ≡ None)

-- empty lists, with a place for the seat and for what is left of each of so many streams
pub record ArePlacesFor {L R W : Type 0} (count : ℕ) (places : Places L R W) : Type 0 where
  pub no_seats : places.seats.items ≡ []
  pub seats : count ≤ vec_capacity places.seats
  pub no_streams : places.streams.items ≡ []
  pub streams : count ≤ vec_capacity places.streams

-- empty lists, with a place for each of so many streams
pub record IsRoomFor {L R W : Type 0} (count : ℕ) (room : Room L R W) : Type 0 where
  pub no_turns : room.turns.items ≡ []
  pub turns : count ≤ vec_capacity room.turns
  pub places : ArePlacesFor count room.places

-- an epoch of a session that began so can begin from this schedule, behind these, by a hub of the session's
-- limit: each stream stands with its seat, and there is room for what comes of all
pub record CanBegin {L R W : Type 0} (b : Beginning) (epochs : List EpochValue) (from : ScheduleValue)
    (now : Opening L R W) : Type 0 where
  pub begun : IsBeginning b
  pub opens : OpensInTurn b.limit b.schedule from epochs
  pub past : LeadsTo b.schedule (journal_of epochs) from
  pub stand : AllBegin (journal_of epochs) b.starts (held_with now.opened.1.items now.streams.items)
  pub room : IsRoomFor (vec_len now.streams) now.room
  pub untold : now.served.items ≡ []
  pub places : vec_len now.streams ≤ vec_capacity now.served
  pub no_calls : AllByRecursion HasNoCalls now.opened.1.items
  pub limit : now.opened.0.limit ≡ b.limit

-- it may begin behind those that were told. Only the first of all is behind none
pub record MayBeginAt {L R W : Type 0} (stands : List EpochValue → List Waiting → Type 0) (terms : Terms)
    (Gives : ℕ → Type 0) (is_first : Bool) (b : Beginning) (epochs : List EpochValue) (from : ScheduleValue)
    (now : Opening L R W) : Type 0 where
  pub told : AreTold stands terms Gives b epochs
  pub later : IsFalse is_first → epochs ≢ []
  pub can : CanBegin b epochs from now

-- the same, whatever the session began with
abbrev pub MayBegin : {L R W : Type 0} (stands : List EpochValue → List Waiting → Type 0) (terms : Terms)
    (Gives : ℕ → Type 0) (is_first : Bool) → ScheduleValue → Opening L R W → Type 0
MayBegin stands terms Gives is_first from now =
    (b : Beginning) × (epochs : List EpochValue) × MayBeginAt stands terms Gives is_first b epochs from now

-- a session comes to this from where an epoch began, with no other stops than the clock allows
pub record Continues {L R W : Type 0} (stood stands : List EpochValue → List Waiting → Type 0) (terms : Terms)
    (Gives : ℕ → Type 0) (is_first : Bool) (from : ScheduleValue) (opening : Opening L R W)
    (now : Interval R W) : Type 0 where
  pub between : (b : Beginning) (epochs : List EpochValue)
      → MayBeginAt stood terms Gives is_first b epochs from opening → StandsBetween stands terms Gives b now
  pub stops : AreAllowed Gives opening.streams.items → AreAllowed Gives now.streams.items
