use Rattle.std.proofs.Common.{◌≡◌, length}
use Rattle.lower_tests.proofs.tests.scheduling.pools.the_earliest_deadline_goes_first.Given as goal

abbrev pub invariant-loop-k : goal.invariant-loop-k
invariant-loop-k g l = length l.pool ≡ 5
