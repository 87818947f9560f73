use Rattle.std.proofs.Common.{◌≡◌, map}
use Rattle.serve_core.specs.Streams.{opened}
use Rattle.serve_core.proofs.schedule.Schedule.new.Given as goal

abbrev pub invariant-loop-spec : goal.invariant-loop-spec
invariant-loop-spec l = l.streams.items ≡ map opened l.yielded
