-- The clock that a run is told to have.
use Rattle.std.specs.Prelude.{ℕ, ◌≡◌, ⊤, max, Option, Some, None}
use Rattle.serve_report.specs.declared.serve.run_clock.RunClock.{RunClock}
use Rattle.serve_report.specs.declared.serve.run_clock.RunClock.TheVariants as clocks

-- where the microseconds of a moment are told, one at least, time is what passes; else offers are counted
abbrev pub IsClockOf : {T : Type 0} → Option ℕ → RunClock T → Type 0
IsClockOf None (clocks.Counted counter) = ⊤
IsClockOf None (clocks.Timed timer) = ⊥
IsClockOf (Some microseconds) (clocks.Counted counter) = ⊥
IsClockOf (Some microseconds) (clocks.Timed timer) = timer.microseconds ≡ max microseconds 1
