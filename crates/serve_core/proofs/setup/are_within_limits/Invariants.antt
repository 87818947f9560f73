use Rattle.std.proofs.Common.{All, take}
use Rattle.serve_core.specs.Setup.{IsWithinLimits}
use Rattle.serve_core.proofs.setup.are_within_limits.Given as goal

abbrev pub invariant-loop-stream : goal.invariant-loop-stream
invariant-loop-stream l = All IsWithinLimits (take l.stream-index l.fn.streams)
