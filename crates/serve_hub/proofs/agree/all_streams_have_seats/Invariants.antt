use Rattle.serve_hub.specs.Ends.{HaveStreams}
use Rattle.serve_hub.proofs.agree.all_streams_have_seats.Given as goal

abbrev pub invariant-loop-number : goal.invariant-loop-number
invariant-loop-number g l = HaveStreams l.number l.seats
