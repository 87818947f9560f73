use Rattle.std.proofs.Common.{◌≡◌, take}
use Rattle.serve_core.specs.Schedule.{held_of_streams}
use Rattle.serve_core.proofs.schedule.admission_of_held_shares.Given as goal

abbrev pub invariant-loop-stream : goal.invariant-loop-stream
invariant-loop-stream l =
    l.admission ≡ held_of_streams l.fn.workers l.fn.moment (take l.stream-index l.fn.streams)
