-- What is left where the clock goes on.
use Rattle.std.specs.Prelude.{ℕ, max}
use Rattle.serve_core.specs.Schedule.{ScheduleValue}

-- the clock is at a moment, or later
abbrev pub at_moment : ℕ → ScheduleValue → ScheduleValue
at_moment at x = record x { clock = max x.clock at }
