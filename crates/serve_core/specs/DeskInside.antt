-- What a desk keeps.
use Rattle.std.specs.Prelude.{ℕ, ◌≡◌, List, slice_get, Option, Some, None}
use Rattle.serve_core.specs.declared.held.Held.{Held}
use Rattle.serve_core.specs.Desk.{desk_state}
use Rattle.serve_core.specs.Released.{StillFits}
use Rattle.serve_core.specs.Schedule.{ScheduleValue}
use Rattle.serve_core.specs.Sound.{Sound}
use Rattle.serve_core.specs.Streams.{KeptStream}

-- each job that is out was handed over
abbrev pub AreAway : List KeptStream → Type 0
AreAway streams = (s : ℕ) (stream : KeptStream) → slice_get streams s ≡ Some stream → stream.leased ≡ None

-- no band is told of before its lease is settled
abbrev pub AreUnused : List (Option Held) → Type 0
AreUnused workers = (w : ℕ) (held : Held) → slice_get workers w ≡ Some (Some held) → held.used ≡ 0

pub record IsDesk (x : ScheduleValue) : Type 0 where
  pub sound : Sound (desk_state x)
  pub fits : StillFits (desk_state x)
  pub away : AreAway x.streams
  pub unused : AreUnused x.workers
