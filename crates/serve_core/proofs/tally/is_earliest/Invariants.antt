use Rattle.serve_core.proofs.Calls.Sooner.{NoneBefore}
use Rattle.serve_core.proofs.tally.is_earliest.Given as goal

abbrev pub invariant-loop-t : goal.invariant-loop-t
invariant-loop-t l = NoneBefore l.rows l.s l.deadline l.t
