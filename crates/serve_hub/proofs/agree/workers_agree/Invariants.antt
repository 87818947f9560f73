use Rattle.std.proofs.Common.{take}
use Rattle.serve_hub.specs.Ends.{AreWorkCalls}
use Rattle.serve_hub.proofs.agree.workers_agree.Given as goal

abbrev pub invariant-loop-seat : goal.invariant-loop-seat
invariant-loop-seat g l = AreWorkCalls l.journal (take l.seat-index l.seats)
