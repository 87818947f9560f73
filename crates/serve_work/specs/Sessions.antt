-- What the streams of a session come to.
use Rattle.std.specs.Prelude.{ℕ, ◌+◌, ◌*◌, ◌≡◌, ◌≢◌, ◌<◌, ◌≤◌, ◌++◌, ◌⊎◌, ⊤, Bool, true, false, IsFalse}
use Rattle.std.specs.Prelude.{List, [], ◌∷◌, Option, length, map, reverse}
use Rattle.std.specs.List.{AllByRecursion, AllZip, Contains}
use Rattle.filters.specs.Costs.{cost_of}
use Rattle.y4m_stream.specs.declared.reader.Phase.TheVariants.{Open}
use Rattle.y4m_stream.specs.Reader.{IsOfHeader, ReaderState}
use Rattle.serve_core.specs.Desk.{desk_state}
use Rattle.serve_core.specs.Schedule.{HasStream, ScheduleValue, opened_schedule}
use Rattle.serve_core.specs.Setup.{Setup, StreamSpec}
use Rattle.serve_core.specs.Streams.{KeptStream}
use Rattle.serve_hub.specs.declared.entry.Act.{Act}
use Rattle.serve_hub.specs.declared.entry.Entry.{Entry}
use Rattle.serve_hub.specs.declared.entry.Seat.TheVariants.{Stream}
use Rattle.serve_hub.specs.Books.{specs_of}
use Rattle.serve_hub.specs.Ends.{acts_of}
use Rattle.serve_hub.specs.Journal.{IsJournal}
use Rattle.serve_hub.specs.Seats.{StreamSeatValue, left_by}
use Rattle.serve_client.specs.declared.stop.Stop.TheVariants.{Whole}
use Rattle.serve_client.specs.Rests.{Unbegun}
use Rattle.serve_client.specs.Streams.{ServedValue, StreamValue, Waiting}
use Rattle.serve_client.specs.Clients.{AllowsStop, ClientIsDone, ClientStart, StreamEnds}
use Rattle.serve_work.specs.declared.session.SessionFault.{SessionFault}
use Rattle.serve_work.specs.declared.session.SessionFault.TheVariants as faults
use Rattle.serve_work.specs.declared.session.unended.Unended.{Unended}
use Rattle.serve_work.specs.declared.session.unended.Unended.TheVariants as unended
use Rattle.serve_work.specs.Entries.{AreTimed, open_streams}
use Rattle.serve_work.specs.History.{EpochValue, IsHistory, journal_of, terms_with}

-- nothing was read of a stream's frames, and its header has the size of the stream's chain
pub record IsInput {W : Type 0} (spec : StreamSpec) (input : ReaderState × W) : Type 0 where
  pub header : IsOfHeader input.0.header spec.chain.geometry
  pub is_open : input.0.phase ≡ Open

-- an input for each stream
abbrev pub AreInputs : {W : Type 0} → List StreamSpec → List (ReaderState × W) → Type 0
AreInputs specs inputs = AllZip IsInput specs inputs

-- what a stream begins with, by what is known of its writer
abbrev pub start_of : {W : Type 0} (contents : W → Option (List ℕ)) (failures : W → ℕ) → StreamSeatValue
    → ReaderState × W → ClientStart
start_of contents failures seat input = record {
  seat = seat;
  reader = input.0;
  before = contents input.1;
  failures = failures input.1;
}

abbrev pub starts_of : {W : Type 0} (contents : W → Option (List ℕ)) (failures : W → ℕ)
    → List StreamSeatValue → List (ReaderState × W) → List ClientStart
starts_of contents failures (seat ∷ seats) (input ∷ inputs) =
    start_of contents failures seat input ∷ starts_of contents failures seats inputs
starts_of contents failures seats inputs = []

-- a client came from this beginning to what is told, and the stream was charged for all images that were
-- delivered, and for no more than the frames that were accepted
pub record IsServed (start : ClientStart) (served : ServedValue) : Type 0 where
  pub past : List Act
  pub seat : StreamSeatValue
  pub ends : StreamEnds start past seat served.outcome
  pub least : served.outcome.delivered * cost_of start.seat.chain ≤ served.charged
  pub most : served.charged ≤ served.outcome.accepted * cost_of start.seat.chain
  pub whole : served.outcome.stop ≡ Whole
      → served.charged ≡ served.outcome.accepted * cost_of start.seat.chain

-- each stream was served from the beginning at its place
abbrev pub AreServed : List ClientStart → List ServedValue → Type 0
AreServed starts served = AllZip IsServed starts served

-- what a stream did, by a journal that has the latest entry first
abbrev pub acts_in : List Entry → ClientStart → List Act
acts_in journal start = acts_of (Stream start.seat.number) (reverse journal)

-- of a stream as many frames were accepted as are told, and it was charged what is told
pub record IsStreamTold (served : ServedValue) (stream : KeptStream) : Type 0 where
  pub accepted : stream.state.accepted ≡ served.outcome.accepted
  pub charged : stream.state.charged ≡ served.charged

-- a stream was served by the calls that it made in the journals of these epochs, and is told as it stood at the
-- end of the latest, in which its seat left just this. Where its session wasn't cut it wasn't given up: its
-- client came to its end, and no image is left at its seat
pub record IsServedBy (is_cut : Bool) (epochs : List EpochValue) (latest : EpochValue) (start : ClientStart)
    (served : ServedValue) : Type 0 where
  pub is_served : IsServed start served
  pub own : IsFalse is_cut → ClientIsDone start is_served.past is_served.seat served.outcome
  pub calls : is_served.past ++ is_served.seat.calls.list ≡ acts_in (journal_of epochs) start
  pub stream : HasStream latest.last start.seat.number (IsStreamTold served)
  pub left : Contains latest.rests (left_by is_served.seat)

-- each entry of a frame of these streams, by a journal from where a schedule stood, has a moment that the clock
-- may give
abbrev pub AllTimed : (Gives : ℕ → Type 0) → ScheduleValue → List Entry → List ClientStart → Type 0
AllTimed Gives opening journal starts =
    AllByRecursion (λ start.
    AreTimed Gives start.seat.number (specs_of opening) (desk_state opening) journal) starts

-- the epoch's journal has no room for a lease and its settlement, beside a close of each open stream
abbrev pub IsFull : (limit : ℕ) → EpochValue → Type 0
IsFull limit epoch = limit < length epoch.journal + open_streams (desk_state epoch.last) + 2

-- an epoch opens here behind these, which are all full: where the latest of them ended, and behind none where
-- the session opens
abbrev pub OpensInTurn : (limit : ℕ) (first opening : ScheduleValue) → List EpochValue → Type 0
OpensInTurn limit first opening [] = opening ≡ first
OpensInTurn limit first opening (epoch ∷ before) =
    (opening ≡ epoch.last) × IsFull limit epoch × OpensInTurn limit first epoch.opening before

-- these are the epochs of a session that opens here, one behind the other. Where a stream waits for another, the
-- latest is full too, or it has no entry, and isn't the first
abbrev pub AreInTurn : (limit : ℕ) (first : ScheduleValue) (waits : Bool) → List EpochValue → Type 0
AreInTurn limit first waits [] = ⊥
AreInTurn limit first false (epoch ∷ before) = OpensInTurn limit first epoch.opening before
AreInTurn limit first true (epoch ∷ before) =
    OpensInTurn limit first epoch.opening before
    × (IsFull limit epoch ⊎ ((epoch.journal ≡ []) × (before ≢ [])))

-- nothing was told behind the end of the epoch
pub record IsJustEnded (epoch : EpochValue) : Type 0 where
  pub stays : epoch.gone ≡ epoch.last
  pub goes_on : IsFalse epoch.is_given_up

-- a chronicle was told of some epochs, of each where it ended, and of nothing else
abbrev pub IsToldAtEnds : {Request : Type 0} (stands : List EpochValue → List Request → Type 0) → Type 0
IsToldAtEnds stands = (epochs : List EpochValue) × stands epochs [] × AllByRecursion IsJustEnded epochs

-- these epochs, the latest first, lead from where the setup opens to where the session ended. Each stream was
-- served by its calls in their journals, with each frame at a moment that the clock may give, and stopped as the
-- clock allows. Only where the session was cut may one have been given up: behind a full journal, where streams
-- wait for another epoch
pub record IsSessionOf (Gives : ℕ → Type 0) (setup : Setup) (limit : ℕ) (epochs : List EpochValue)
    (starts : List ClientStart) (served : List ServedValue) : Type 0 where
  pub is_cut : Bool
  pub history : IsHistory (terms_with setup limit) Gives epochs
  pub in_turn : AreInTurn limit (opened_schedule setup) is_cut epochs
  pub at_end : AllByRecursion IsJustEnded epochs
  pub latest : EpochValue
  pub before : List EpochValue
  pub epochs_are : epochs ≡ latest ∷ before
  pub leads : IsJournal setup.streams (desk_state (opened_schedule setup)) (journal_of epochs)
      (desk_state latest.last)
  pub streams : AllZip (IsServedBy is_cut epochs latest) starts served
  pub moments : AllTimed Gives (opened_schedule setup) (journal_of epochs) starts
  pub stops : AllByRecursion (λ s. AllowsStop Gives s.outcome.stop) served

-- the same, whatever epochs these were
abbrev pub IsSession : (Gives : ℕ → Type 0) → Setup → (limit : ℕ) → List ClientStart → List ServedValue → Type 0
IsSession Gives setup limit starts served =
    (epochs : List EpochValue) × IsSessionOf Gives setup limit epochs starts served

-- the fault that a session tells that came to no end
abbrev pub fault_of : {R W : Type 0} → Unended R W → SessionFault
fault_of (unended.Unopened fault inputs) = fault
fault_of (unended.Unbegun streams) = faults.NoMemory
fault_of unended.Mismatch = faults.Mismatch

-- nothing was done of the stream of this input
abbrev pub unread : {W : Type 0} (contents : W → Option (List ℕ)) (failures : W → ℕ) → ReaderState × W
    → StreamValue
unread contents failures input = Waiting (Unbegun input.0 (contents input.1) (failures input.1))

-- what comes back of a session in which no frame was offered: its inputs as they were, or their streams with
-- nothing done of them
abbrev pub GivesBack : {R W : Type 0} (contents : W → Option (List ℕ)) (failures : W → ℕ)
    → List (ReaderState × W) → Unended R W → Type 0
GivesBack contents failures inputs (unended.Unopened fault back) = back.items ≡ inputs
GivesBack contents failures inputs (unended.Unbegun back) = back.items ≡ map (unread contents failures) inputs
GivesBack contents failures inputs unended.Mismatch = ⊤
