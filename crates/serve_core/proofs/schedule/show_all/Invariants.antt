use Rattle.std.proofs.Common.{◌≡◌}
use Rattle.serve_core.proofs.Schedules.Retiring.{shown_first}
use Rattle.serve_core.proofs.schedule.show_all.Given as goal

abbrev pub invariant-loop-s : goal.invariant-loop-s
invariant-loop-s l = l.pool ≡ shown_first l.s l.fn.streams
