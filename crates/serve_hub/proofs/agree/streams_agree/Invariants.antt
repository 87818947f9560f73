use Rattle.std.proofs.Common.{take}
use Rattle.serve_hub.specs.Ends.{AreStreamCalls}
use Rattle.serve_hub.proofs.agree.streams_agree.Given as goal

abbrev pub invariant-loop-seat : goal.invariant-loop-seat
invariant-loop-seat g l = AreStreamCalls l.journal (take l.seat-index l.seats)
