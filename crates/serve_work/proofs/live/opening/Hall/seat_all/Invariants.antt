use Rattle.std.proofs.Common.{◌≡◌, ◌+◌, ◌≤◌, ◌++◌, Some, length, map}
use Rattle.std.specs.Iterator.Adapters.{zip_first, zip_second}
use Rattle.std.specs.List.{AllByRecursion}
use Rattle.std.specs.Vec.{vec_len}
use Rattle.std.specs.Vec.Iter.{into_iter_items, into_iter_len}
use Rattle.serve_work.specs.Intervals.{HasNoCalls}
use Rattle.serve_work.specs.LiveInside.{HasPlaces, helds_of, tickets_of}
use Rattle.serve_work.specs.SessionInside.{IsReady}
use Rattle.serve_work.proofs.live.opening.Hall.seat_all.Given as goal

-- the streams that have their seats, and those that are left
abbrev pub invariant-loop-seat : goal.invariant-loop-seat
invariant-loop-seat g l =
    let seats = into_iter_items (zip_first l.seat-iterator) in
    let guests = into_iter_items (zip_second l.seat-iterator) in
    record {
      places : HasPlaces l.self;
      turns : l.self.room.turns.items ++ map Some (helds_of seats guests)
          ≡ map Some (helds_of l.fn.seats.items l.fn.guests.items);
      tickets : l.self.tickets.items ++ tickets_of seats guests ≡ tickets_of l.fn.seats.items l.fn.guests.items;
      ready : AllByRecursion IsReady (helds_of seats guests);
      seats_left : length seats ≡ into_iter_len (zip_first l.seat-iterator);
      guests_left : length guests ≡ into_iter_len (zip_second l.seat-iterator);
      few : vec_len l.self.room.turns + vec_len l.self.idle + into_iter_len (zip_first l.seat-iterator) ≤ vec_len l.fn.seats;
      tickets_fit : vec_len l.self.tickets ≤ vec_len l.self.room.turns;
      no_calls : AllByRecursion HasNoCalls seats;
      idle : AllByRecursion HasNoCalls l.self.idle.items;
    }
