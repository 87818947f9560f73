use Rattle.std.proofs.Common.{arith, rules}
use Rattle.serve_core.proofs.Schedules.Jobs.{here_more}
use Rattle.serve_core.proofs.stream.Stream.accept.Goals as goal

pub invariant_of-self : goal.invariant_of-self
invariant_of-self c = grind (arith, here_more)

pub returns-then-idle-clause-accepted : goal.returns-then-idle-clause-accepted
returns-then-idle-clause-accepted c = search rules
