use Rattle.std.proofs.Common.{◌∙◌, ap, arith, length}
use Rattle.serve_work.proofs.Seating.{guests_made, guests_more}
use Rattle.serve_work.proofs.SessionTurns.{one_empty}
use Rattle.serve_work.proofs.live.epochs.fill_guests.Goals as goal

pub loop-ticket-preserved : goal.loop-ticket-preserved
loop-ticket-preserved g c =
    let inv = c.loop-ticket.invariant in
    let steps = c.in-Some.ensures.steps in
    record {
      told = guests_more _ _ _ _ _ _ _ _ _ steps.0.0 steps.1.0 inv.told c.push_reserved.ensures.items;
      tickets_left = omega (arith, inv.tickets_left, ap length steps.0.0, steps.0.1);
      streams_left = omega (arith, inv.streams_left, ap length steps.1.0, steps.1.1);
      room = omega (arith, inv.room, steps.1.1, c.push_reserved.ensures.len, c.push_reserved.ensures.capacity);
      few = omega (arith, inv.few, steps.1.1, c.push_reserved.ensures.len);
      same_room = c.push_reserved.ensures.capacity ∙ inv.same_room;
    }

pub returns : goal.returns
returns g c =
    let inv = c.loop-ticket.invariant in
    record {
      guests = guests_made c.loop-ticket.guests.items _ _ _
          (one_empty _ _ _ _ inv.tickets_left inv.streams_left c.in-None.ensures.steps) inv.told;
      guests_within = omega (arith, inv.few);
      same_room = inv.same_room;
    }
