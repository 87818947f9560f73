use Rattle.serve_hub.specs.Ends.{HaveWorkers}
use Rattle.serve_hub.proofs.agree.all_workers_have_seats.Given as goal

abbrev pub invariant-loop-number : goal.invariant-loop-number
invariant-loop-number g l = HaveWorkers l.number l.seats
