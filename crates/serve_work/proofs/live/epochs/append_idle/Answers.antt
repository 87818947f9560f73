use Rattle.std.proofs.Common.{◌≡◌, ap, arith, length}
use Rattle.std.specs.Vec.Iter.{into_iter_items}
use Rattle.serve_work.proofs.Seating.{all_moved, idle_made, idle_more, moved_more}
use Rattle.serve_work.proofs.live.epochs.append_idle.Goals as goal

pub loop-seat-preserved : goal.loop-seat-preserved
loop-seat-preserved g c =
    let inv = c.loop-seat.invariant in
    let steps = c.in-Some.ensures.steps in
    record {
      moved = moved_more _ _ _ _ _ _ steps.0 inv.moved c.push_reserved.ensures.items;
      none = idle_more _ _ _ _ _ _ steps.0 inv.none c.push_reserved-in-loop-seat.ensures.items;
      left = omega (arith, inv.left, ap length steps.0, steps.1);
      room = omega (arith, inv.room, steps.1, c.push_reserved.ensures.len, c.push_reserved.ensures.capacity);
      guests_room = omega (
        arith,
        inv.guests_room,
        steps.1,
        c.push_reserved-in-loop-seat.ensures.len,
        c.push_reserved-in-loop-seat.ensures.capacity,
      );
    }

pub returns : goal.returns
returns g c =
    let inv = c.loop-seat.invariant in
    let none : length (into_iter_items c.loop-seat.seat-iterator) ≡ 0 = omega (arith, inv.left, c.in-None.ensures.steps.0) in
    record { seats = all_moved _ _ _ none inv.moved; guests = idle_made _ _ _ none inv.none }
