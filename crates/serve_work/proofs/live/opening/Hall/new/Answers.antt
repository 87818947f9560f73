use Rattle.std.proofs.Common.{arith}
use Rattle.serve_work.proofs.live.opening.Hall.new.Goals as goal

pub returns-clause-places : goal.returns-clause-places
returns-clause-places g c =
    let room = c.in_ok-new.ensures in
    record {
      turns = room.turns;
      tickets = omega (arith, c.in_ok-with_capacity.ensures.capacity);
      idle = omega (arith, c.in_ok-with_capacity-2.ensures.capacity);
      places = room.places;
      no_guests = c.in_ok-with_capacity-3.ensures.items;
      guests = omega (arith, c.in_ok-with_capacity-3.ensures.capacity);
    }

pub returns-clause-empty : goal.returns-clause-empty
returns-clause-empty g c =
    (c.in_ok-new.ensures.no_turns, c.in_ok-with_capacity.ensures.items, c.in_ok-with_capacity-2.ensures.items)
