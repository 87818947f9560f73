use Rattle.std.proofs.Common.{◌≡◌, ◌+◌, ◌≤◌, ◌++◌, length}
use Rattle.std.specs.Vec.{vec_capacity, vec_len}
use Rattle.std.specs.Vec.Iter.{into_iter_items, into_iter_len}
use Rattle.serve_work.specs.LiveInside.{nobody}
use Rattle.serve_work.proofs.live.epochs.append_idle.Given as goal

-- the seats that are there, and those that are left
abbrev pub invariant-loop-seat : goal.invariant-loop-seat
invariant-loop-seat g l = record {
  moved : l.seats.items ++ into_iter_items l.seat-iterator ≡ l.initial.seats.items ++ l.fn.idle.items;
  none : l.guests.items ++ nobody (into_iter_items l.seat-iterator) ≡ l.initial.guests.items ++ nobody l.fn.idle.items;
  left : length (into_iter_items l.seat-iterator) ≡ into_iter_len l.seat-iterator;
  room : vec_len l.seats + into_iter_len l.seat-iterator ≤ vec_capacity l.seats;
  guests_room : vec_len l.guests + into_iter_len l.seat-iterator ≤ vec_capacity l.guests;
}
