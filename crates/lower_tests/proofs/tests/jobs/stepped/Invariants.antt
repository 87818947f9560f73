use Rattle.std.proofs.Common.{◌≡◌}
use Rattle.lower_tests.proofs.tests.jobs.stepped.Given as goal

abbrev pub invariant-loop-used : goal.invariant-loop-used
invariant-loop-used g l = l.lease.job.chain ≡ l.fn.job.chain
