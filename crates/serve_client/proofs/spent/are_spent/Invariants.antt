use Rattle.std.proofs.Common.{take}
use Rattle.serve_client.proofs.SpentLeases.{StandSpent}
use Rattle.serve_client.proofs.spent.are_spent.Given as goal

abbrev pub invariant-loop-call : goal.invariant-loop-call
invariant-loop-call l = StandSpent l.grant (take l.call-index l.calls)
