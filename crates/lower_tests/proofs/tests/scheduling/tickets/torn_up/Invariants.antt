use Rattle.std.proofs.Common.{IsFalse, length}
use Rattle.lower_tests.proofs.tests.scheduling.tickets.torn_up.Given as goal

abbrev pub invariant-loop-ticket : goal.invariant-loop-ticket
invariant-loop-ticket l = IsFalse l.queue.is_out

abbrev pub decreases-loop-ticket : goal.decreases-loop-ticket
decreases-loop-ticket l = length l.queue.waiting
