use Rattle.std.proofs.Common.{take}
use Rattle.serve_hub.specs.Ends.{AreStreamsOf}
use Rattle.serve_hub.proofs.agree.have_their_streams.Given as goal

abbrev pub invariant-loop-seat : goal.invariant-loop-seat
invariant-loop-seat g l = AreStreamsOf l.book.desk (take l.seat-index l.seats)
