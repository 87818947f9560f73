-- A stream, whatever the epoch: what is left to do of it, or what it came to, and what is told of that.
use Rattle.std.specs.Prelude.{Bool, true, false, Option, None, Some, ℕ, IsFalse, List}
use Rattle.serve_core.specs.declared.collected.Collected.{Collected}
use Rattle.serve_hub.specs.declared.entry.Act.{Act}
use Rattle.serve_hub.specs.Seats.{StreamSeatValue}
use Rattle.serve_client.specs.declared.stop.Stop.{Stop}
use Rattle.serve_client.specs.Clients.{ClientIsDone, ClientOutcome, ClientStart, StreamEnds}
use Rattle.serve_client.specs.Rests.{RestValue, delivered_in, rest_image, rest_stop, IsRestOf}
use Rattle.serve_client.specs.ClientInside.{IsNoNewEnd}
use Rattle.serve_client.specs.Sends.{TellsKept}

-- what is left to do of it, or what it came to
pub data StreamValue : Type 0 where
  Waiting : (rest : RestValue) → StreamValue
  Over : (outcome : ClientOutcome) → StreamValue

-- whether something is left to do of it
abbrev pub is_waiting : StreamValue → Bool
is_waiting (Waiting rest) = true
is_waiting (Over outcome) = false

-- the stop that is kept for it, or that it came to
abbrev pub stream_stop : StreamValue → Option Stop
stream_stop (Waiting rest) = rest_stop rest
stream_stop (Over outcome) = Some outcome.stop

-- the image that its client has in hand, if there is one
abbrev pub stream_image : StreamValue → Option Collected
stream_image (Waiting rest) = rest_image rest
stream_image (Over outcome) = None

-- how many of its images went out
abbrev pub stream_delivered : StreamValue → ℕ
stream_delivered (Waiting rest) = delivered_in rest
stream_delivered (Over outcome) = outcome.delivered

-- the stream began so, and its seats of the epochs before made these calls
abbrev pub StandsAt : StreamValue → ClientStart → List Act → StreamSeatValue → Type 0
StandsAt (Waiting rest) start past seat = IsRestOf start past seat rest
StandsAt (Over outcome) start past seat = ClientIsDone start past seat outcome

-- what is told of a stream: what its client came to, and how many units it was charged
pub record ServedValue : Type 0 where
  pub outcome : ClientOutcome
  pub charged : ℕ

-- what is told of a stream is its end, from whatever it began with; the clock's end only where it was kept;
-- a fault that was kept, or that of the image in hand, and else want of memory. Where nothing is left to do of it, it is its client's end
pub record IsOver (stream : StreamValue) (served : ServedValue) : Type 0 where
  pub ends : (start : ClientStart) (past : List Act) (seat : StreamSeatValue)
      → StandsAt stream start past seat → StreamEnds start past seat served.outcome
  pub stop : IsNoNewEnd (stream_stop stream) (Some served.outcome.stop)
  pub kept : TellsKept (stream_image stream) (stream_stop stream) (stream_delivered stream) served.outcome.stop
      served.outcome.delivered
  pub own : IsFalse (is_waiting stream) → (start : ClientStart) (past : List Act) (seat : StreamSeatValue)
      → StandsAt stream start past seat → ClientIsDone start past seat served.outcome
