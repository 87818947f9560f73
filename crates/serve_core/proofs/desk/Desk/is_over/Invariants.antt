use Rattle.std.proofs.Common.{All, take}
use Rattle.serve_core.specs.Streams.{IsOver}
use Rattle.serve_core.proofs.desk.Desk.is_over.Given as goal

abbrev pub invariant-loop-stream : goal.invariant-loop-stream
invariant-loop-stream l = All IsOver (take l.stream-index l.stream-items)
