use Rattle.std.proofs.Common.{◌≡◌, ◌+◌, ◌≤◌, length}
use Rattle.std.specs.Vec.{vec_capacity, vec_len}
use Rattle.std.specs.Vec.Iter.{into_iter_items, into_iter_len}
use Rattle.serve_work.proofs.SessionTurns.{Parted}
use Rattle.serve_work.proofs.session.places.Places.fill.Given as goal

-- what was taken apart so far, and what is left
abbrev pub invariant-loop-turn : goal.invariant-loop-turn
invariant-loop-turn g l =
    record {
      parts : Parted l.fn.turns.items (into_iter_items l.turn-iterator) l.self.seats.items l.self.streams.items;
      left : length (into_iter_items l.turn-iterator) ≡ into_iter_len l.turn-iterator;
      same_room : vec_capacity l.self.seats ≡ vec_capacity l.initial.self.seats;
      seats : vec_len l.self.seats + into_iter_len l.turn-iterator ≤ vec_capacity l.self.seats;
      streams : vec_len l.self.streams + into_iter_len l.turn-iterator ≤ vec_capacity l.self.streams;
    }
