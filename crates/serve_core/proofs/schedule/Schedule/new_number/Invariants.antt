use Rattle.std.proofs.Common.{◌≡◌, ◌≤◌}
use Rattle.serve_core.specs.Retired.{new_number}
use Rattle.serve_core.proofs.schedule.Schedule.new_number.Given as goal

abbrev pub invariant-loop-t : goal.invariant-loop-t
invariant-loop-t l = record { count : l.count ≡ new_number l.fn.self l.t; few : l.count ≤ l.t }
