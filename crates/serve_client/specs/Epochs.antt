-- How a stream goes on from one epoch to the next.
use Rattle.std.specs.Prelude.{◌≡◌, List, [], ◌++◌}
use Rattle.y4m_stream.specs.declared.reader.Phase.TheVariants.{Open}
use Rattle.serve_hub.specs.declared.entry.Act.{Act}
use Rattle.serve_hub.specs.Seats.{StreamSeatValue, collected_by, spec_told}
use Rattle.serve_client.specs.Clients.{ClientIsDone, ClientOutcome, ClientStart, IsNewSeat}
use Rattle.serve_client.specs.Rests.{IsRestOf, RestValue, Unbegun}

-- the seat of the same stream in the next epoch: it has made no call
pub record IsReopened (old new : StreamSeatValue) : Type 0 where
  pub number : new.number ≡ old.number
  pub spec : spec_told new ≡ spec_told old
  pub accepted : new.accepted ≡ old.accepted
  pub is_closed : new.is_closed ≡ old.is_closed
  pub kept : new.kept ≡ old.kept
  pub calls : new.calls.list ≡ []
  pub before : new.before ≡ collected_by old
  pub torn : new.torn ≡ old.torn

-- of a new seat's stream all is left to do
abbrev pub NewStreamIsUnbegun : Type 0
NewStreamIsUnbegun = (start : ClientStart) → IsNewSeat start.seat → start.reader.phase ≡ Open
    → IsRestOf start [] start.seat (Unbegun start.reader start.before start.failures)

-- what is left to do of a stream is left to do in the next epoch, and its end stays its end
abbrev pub StreamsCross : Type 0
StreamsCross = (start : ClientStart) (past : List Act) (old new : StreamSeatValue) → IsReopened old new
    → ((rest : RestValue) → IsRestOf start past old rest
    → IsRestOf start (past ++ old.calls.list) new rest)
    × ((end : ClientOutcome) → ClientIsDone start past old end
    → ClientIsDone start (past ++ old.calls.list) new end)
