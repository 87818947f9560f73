use Rattle.std.proofs.Common.{◌≡◌, length}
use Rattle.lower_tests.proofs.tests.scheduling.pools.equal_deadlines_go_by_number.Given as goal

abbrev pub invariant-loop-s : goal.invariant-loop-s
invariant-loop-s g l = length l.pool ≡ 64

abbrev pub invariant-loop-s-2 : goal.invariant-loop-s-2
invariant-loop-s-2 g l = length l.pool ≡ 64
