use Rattle.std.proofs.Common.{◌≡◌}
use Rattle.serve_hub.proofs.hub.Hub.collect_or_wait.Given as goal

abbrev pub invariant-loop : goal.invariant-loop
invariant-loop g l = l.seat ≡ l.initial.seat
