use Rattle.std.proofs.Common.{◌≡◌, ◌+◌, map}
use Rattle.std.specs.List.{range_with_len}
use Rattle.serve_hub.specs.Seats.{opened_worker}
use Rattle.serve_hub.proofs.room.work_seats.Given as goal

abbrev pub invariant-loop-w : goal.invariant-loop-w
invariant-loop-w g l =
    (l.spare.parts + l.w ≡ l.initial.spare.parts) × (l.spare.amount ≡ 0)
    × (l.seats.items ≡ map (opened_worker l.limit) (range_with_len 0 l.w))
