use Rattle.std.proofs.Common.{◌≡◌, map}
use Rattle.serve_core.specs.States.{new_stream}
use Rattle.serve_core.proofs.tally.Tally.new.Given as goal

abbrev pub invariant-loop-spec : goal.invariant-loop-spec
invariant-loop-spec l = l.rows.items ≡ map new_stream l.yielded
