use Rattle.std.proofs.Common.{All, take}
use Rattle.serve_client.specs.Workers.{AreSpent}
use Rattle.serve_client.proofs.spent.have_spent.Given as goal

abbrev pub invariant-loop-seat : goal.invariant-loop-seat
invariant-loop-seat g l = All (λ s. AreSpent s.calls.list) (take l.seat-index l.seats.items)
