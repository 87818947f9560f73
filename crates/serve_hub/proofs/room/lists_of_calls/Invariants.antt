use Rattle.std.proofs.Common.{◌≡◌, ◌+◌, replicate}
use Rattle.serve_hub.specs.Seats.{no_calls}
use Rattle.serve_hub.proofs.room.lists_of_calls.Given as goal

abbrev pub invariant-loop-n : goal.invariant-loop-n
invariant-loop-n g l =
    (l.spare.parts + l.n ≡ l.initial.spare.parts) × (l.spare.amount ≡ 0)
    × (l.lists.items ≡ replicate l.n (no_calls l.limit))
