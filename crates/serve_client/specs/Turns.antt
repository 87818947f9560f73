-- What a client comes to in an epoch.
use Rattle.std.specs.Prelude.{ℕ, ⊤, Bool, List, Option, Some}
use Rattle.y4m_stream.specs.Reader.{ReaderState}
use Rattle.serve_hub.specs.declared.entry.Act.{Act}
use Rattle.serve_hub.specs.Books.{IsFull}
use Rattle.serve_hub.specs.Seats.{StreamSeatValue}
use Rattle.serve_client.specs.declared.clients.ClientTurn.{ClientTurn}
use Rattle.serve_client.specs.declared.clients.ClientTurn.TheVariants as turns
use Rattle.serve_client.specs.declared.stop.Stop.{Stop}
use Rattle.serve_client.specs.Clients.{ClientIsDone, ClientOutcome, ClientStart}
use Rattle.serve_client.specs.Rests.{IsRestOf, rest_stop}

-- what a client comes to that read no frame and wrote no image
abbrev pub left_unread : ReaderState → (after : Option (List ℕ)) → (failures : ℕ) → (is_flushed : Bool) → Stop
    → ClientOutcome
left_unread reader after failures is_flushed stop = record {
  stop = stop;
  accepted = 0;
  delivered = 0;
  left = reader.left;
  read_failures = reader.failures;
  after = after;
  failures = failures;
  is_flushed = is_flushed;
}

-- the seat that a client gives back
abbrev pub seat_in : {L R W : Type 0} → ClientTurn L R W → StreamSeatValue
seat_in (turns.Ended end) = end.seat
seat_in (turns.Paused seat rest told) = seat

-- the stop that it keeps or tells, if there is one
abbrev pub turn_stop : {L R W : Type 0} → ClientTurn L R W → Option Stop
turn_stop (turns.Ended end) = Some end.outcome.stop
turn_stop (turns.Paused seat rest told) = rest_stop rest

-- what a client comes to in an epoch, from this beginning of its stream: its end, or what is left to do
abbrev pub Turns : {L R W : Type 0} → ClientStart → List Act → ClientTurn L R W → Type 0
Turns start past (turns.Ended end) = ClientIsDone start past end.seat end.outcome
Turns start past (turns.Paused seat rest told) = IsRestOf start past seat rest

-- where it paused, its hub had told that the epoch was being ended, or that the journal had no place for another
-- lease and its settlement
abbrev pub PausesAtFull : {L R W : Type 0} → ClientTurn L R W → Type 0
PausesAtFull (turns.Ended end) = ⊤
PausesAtFull (turns.Paused seat rest told) = IsFull told
