use Rattle.std.proofs.Common.{◌≡◌, ◌+◌, ◌≤◌, ◌++◌, Some, length, map}
use Rattle.std.specs.Iterator.Adapters.{zip_first, zip_second}
use Rattle.std.specs.List.{AllByRecursion}
use Rattle.std.specs.Vec.{vec_capacity, vec_len}
use Rattle.std.specs.Vec.Iter.{into_iter_items, into_iter_len}
use Rattle.serve_work.specs.SessionInside.{IsReady, held_with}
use Rattle.serve_work.proofs.session.turn.pair_with_seats.Given as goal

-- the turns so far and those of what is left are all turns
abbrev pub invariant-loop-seat : goal.invariant-loop-seat
invariant-loop-seat g l =
    let seats = into_iter_items (zip_first l.seat-iterator) in
    let streams = into_iter_items (zip_second l.seat-iterator) in
    record {
      told : l.turns.items ++ map Some (held_with seats streams) ≡ map Some (held_with l.fn.seats.items l.fn.streams.items);
      ready : AllByRecursion IsReady (held_with seats streams);
      seats_left : length seats ≡ into_iter_len (zip_first l.seat-iterator);
      streams_left : length streams ≡ into_iter_len (zip_second l.seat-iterator);
      room : vec_len l.turns + into_iter_len (zip_second l.seat-iterator) ≤ vec_capacity l.turns;
    }
