-- What contracts inside the crate say of the streams of a session, from epoch to epoch.
use Rattle.std.specs.Prelude.{ℕ, ◌≡◌, ◌<◌, ⊤, All, Bool, IsFalse, List, [], ◌∷◌, ◌++◌, Option, Some}
use Rattle.std.specs.Prelude.{IfSome, IsSomeAnd, IsTrue, map, slice_index_or}
use Rattle.std.specs.List.{AllByRecursion, AllZip}
use Rattle.y4m_stream.specs.declared.reader.Phase.TheVariants.{Open}
use Rattle.y4m_stream.specs.Reader.{IsOfHeader, ReaderState}
use Rattle.serve_core.specs.Schedule.{HasStream, ScheduleValue}
use Rattle.serve_hub.specs.declared.entry.Act.{Act}
use Rattle.serve_hub.specs.declared.entry.Entry.{Entry}
use Rattle.serve_hub.specs.Seats.{StreamSeatValue}
use Rattle.serve_client.specs.Streams.{IsOver, Over, ServedValue, StandsAt, StreamValue, Waiting, is_waiting}
use Rattle.serve_client.specs.Streams.{stream_stop}
use Rattle.serve_client.specs.Clients.{AllowsStop, ClientIsDone, ClientLeft, ClientOutcome, ClientStart}
use Rattle.serve_client.specs.Clients.{StreamEnds}
use Rattle.serve_client.specs.ClientInside.{IsNoNewEnd, KeepsAllowed, KeepsMoments}
use Rattle.serve_client.specs.Rests.{IsRest, reader_in}
use Rattle.serve_work.specs.declared.session.unended.Unended.{Unended}
use Rattle.serve_work.specs.declared.session.unended.Unended.TheVariants as unended
use Rattle.serve_work.specs.Sessions.{acts_in}

-- nothing is left to do of these
abbrev pub AreAllOver : List StreamValue → Type 0
AreAllOver streams = All (λ stream. IsFalse (is_waiting stream)) streams

-- the clock allows each stop that these keep, or came to
abbrev pub AreAllowed : (Gives : ℕ → Type 0) → List StreamValue → Type 0
AreAllowed Gives streams = AllByRecursion (λ stream. IfSome (stream_stop stream) (AllowsStop Gives)) streams

-- a stream with its seat of this epoch
pub record HeldValue : Type 0 where
  pub seat : StreamSeatValue
  pub stream : StreamValue

abbrev pub held_at : StreamSeatValue → StreamValue → HeldValue
held_at seat stream = record { seat = seat; stream = stream }

-- streams with their seats, both in order
abbrev pub held_with : List StreamSeatValue → List StreamValue → List HeldValue
held_with (seat ∷ seats) (stream ∷ streams) = held_at seat stream ∷ held_with seats streams
held_with seats streams = []

-- why an epoch of these streams came to no end: all threads are needed in the first alone, and where one is
-- refused the streams come back as they were
abbrev pub IsUnended : {R W : Type 0} → (is_first : Bool) → List HeldValue → Unended R W → Type 0
IsUnended is_first helds (unended.Unopened fault inputs) = ⊥
IsUnended is_first helds (unended.Unbegun back) =
    IsTrue is_first × (back.items ≡ map (λ held. held.stream) helds)
IsUnended is_first helds unended.Mismatch = ⊤

abbrev pub AreUnread : {W : Type 0} → List (ReaderState × W) → Type 0
AreUnread inputs = AllByRecursion (λ input. input.0.phase ≡ Open) inputs

abbrev pub Stands : ClientStart → List Act → HeldValue → Type 0
Stands start past held = StandsAt held.stream start past held.seat

-- the stream's client may go on, if it waits
abbrev pub IsReadyAt : StreamValue → StreamSeatValue → Type 0
IsReadyAt (Waiting rest) seat = IsOfHeader (reader_in rest).header seat.chain.geometry × IsRest seat rest
IsReadyAt (Over outcome) seat = ⊤

abbrev pub IsReady : HeldValue → Type 0
IsReady held = IsReadyAt held.stream held.seat

-- a stream went on in an epoch, whatever it began with, with its frames at moments that the clock may give,
-- and no other stop than the clock allows
abbrev pub GoesOn : (Gives : ℕ → Type 0) → HeldValue → HeldValue → Type 0
GoesOn Gives old new =
    ((start : ClientStart) (past : List Act) → Stands start past old → Stands start past new)
    × KeepsMoments Gives old.seat new.seat
    × KeepsAllowed Gives (stream_stop old.stream) (stream_stop new.stream)

abbrev pub AllGoOn : (Gives : ℕ → Type 0) → List HeldValue → List HeldValue → Type 0
AllGoOn Gives old new = AllZip (GoesOn Gives) old new

-- each stream stands where its client came to, from the beginning at its place, and its calls are its
-- entries in this journal
abbrev pub HasStand : List Entry → ClientStart → HeldValue → Type 0
HasStand journal start held =
    (past : List Act) × Stands start past held × (past ++ held.seat.calls.list ≡ acts_in journal start)

abbrev pub AllStand : List Entry → List ClientStart → List HeldValue → Type 0
AllStand journal starts helds = AllZip (HasStand journal) starts helds

-- the same, where an epoch begins: the streams' entries in this journal are the calls of their seats before
abbrev pub BeginsAgain : List Entry → ClientStart → HeldValue → Type 0
BeginsAgain journal start held = Stands start (acts_in journal start) held

abbrev pub AllBegin : List Entry → List ClientStart → List HeldValue → Type 0
AllBegin journal starts helds = AllZip (BeginsAgain journal) starts helds

-- what a stream left by this journal; where none waits, it is its client's end
abbrev pub Leaves : (waits : Bool) → List Entry → ClientStart → ClientLeft → Type 0
Leaves waits journal start left =
    (past : List Act) × StreamEnds start past left.seat left.outcome
    × (past ++ left.seat.calls.list ≡ acts_in journal start)
    × (IsFalse waits → ClientIsDone start past left.seat left.outcome)

abbrev pub AllLeave : (waits : Bool) → List Entry → List ClientStart → List ClientLeft → Type 0
AllLeave waits journal starts lefts = AllZip (Leaves waits journal) starts lefts

-- a turn has its stream, which goes on
abbrev pub Runs : (Gives : ℕ → Type 0) → Option HeldValue → Option HeldValue → Type 0
Runs Gives old new = (held : HeldValue) → old ≡ Some held → IsSomeAnd new (GoesOn Gives held)

-- the streams of all turns go on
abbrev pub AllRun : (Gives : ℕ → Type 0) → List (Option HeldValue) → List (Option HeldValue) → Type 0
AllRun Gives old new = (helds : List HeldValue) → old ≡ map Some helds
    → (after : List HeldValue) × (new ≡ map Some after) × AllGoOn Gives helds after

abbrev pub AreOver : List StreamValue → List ServedValue → Type 0
AreOver streams served = AllZip IsOver streams served

-- of streams that kept these stops, the clock's end is told only where it was kept
abbrev pub BringNoEnd : List StreamValue → List ServedValue → Type 0
BringNoEnd streams served =
    AllZip (λ stream told. IsNoNewEnd (stream_stop stream) (Some told.outcome.stop)) streams served

abbrev pub outcomes_of : List ServedValue → List ClientOutcome
outcomes_of served = map (λ told. told.outcome) served

-- the first of these streams are told what they were charged
abbrev pub AreTold : ScheduleValue → ℕ → List ServedValue → Type 0
AreTold desk count served = (k : ℕ) (d : ServedValue) → k < count
    → HasStream desk k (λ stream. (slice_index_or served k d).charged ≡ stream.state.charged)
