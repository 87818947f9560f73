use Rattle.std.proofs.Common.{◌≡◌, ◌+◌, ◌≤◌, ◌++◌, length, map, replicate}
use Rattle.std.specs.Vec.{vec_capacity, vec_len}
use Rattle.std.specs.Vec.Iter.{into_iter_items, into_iter_len}
use Rattle.serve_hub.specs.Seats.{no_calls, seat_over}
use Rattle.serve_hub.proofs.room.fill_seats.Given as goal

-- the seats that are there, and those of what is left
abbrev pub invariant-loop-rest : goal.invariant-loop-rest
invariant-loop-rest g l = record {
  seats : l.seats.items ++ map (seat_over l.limit) (into_iter_items l.rest-iterator)
      ≡ map (seat_over l.limit) l.fn.rests.items;
  left : length (into_iter_items l.rest-iterator) ≡ into_iter_len l.rest-iterator;
  lists : l.lists.items ≡ replicate (vec_len l.lists) (no_calls l.limit);
  each : vec_len l.lists ≡ into_iter_len l.rest-iterator;
  room : vec_len l.seats + into_iter_len l.rest-iterator ≤ vec_capacity l.seats;
}
