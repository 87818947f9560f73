use Rattle.std.proofs.Common.{take}
use Rattle.serve_work.specs.SessionInside.{AreAllOver}
use Rattle.serve_work.proofs.session.epochs.any_waits.Given as goal

abbrev pub invariant-loop-stream : goal.invariant-loop-stream
invariant-loop-stream g l = AreAllOver (take l.stream-index l.streams.items)
