use Rattle.std.proofs.Common.{take}
use Rattle.serve_hub.specs.Ends.{ClocksReached}
use Rattle.serve_hub.proofs.agree.clocks_agree.Given as goal

abbrev pub invariant-loop-seat : goal.invariant-loop-seat
invariant-loop-seat g l = ClocksReached l.book (take l.seat-index l.seats)
