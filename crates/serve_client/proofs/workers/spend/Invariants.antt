use Rattle.std.proofs.Common.{◌≡◌}
use Rattle.serve_client.proofs.workers.spend.Given as goal

abbrev pub invariant-loop-done : goal.invariant-loop-done
invariant-loop-done g l = l.lease ≡ record l.initial.lease { job = l.lease.job; used = l._done }
