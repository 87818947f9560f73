use Rattle.serve_client.proofs.Working.{HasNext}
use Rattle.serve_client.proofs.workers.work.Given as goal

abbrev pub invariant-loop : goal.invariant-loop
invariant-loop g l = HasNext l.fn.seat l.seat l.lease
