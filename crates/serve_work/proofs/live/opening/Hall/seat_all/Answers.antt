use Rattle.std.specs.List.{AllByRecursion}
use Rattle.std.proofs.Common.{ap, arith, length, subst}
use Rattle.serve_work.specs.Intervals.{HasNoCalls}
use Rattle.serve_work.proofs.Seating.{all_made, ready_split, tickets_more, turns_more}
use Rattle.serve_work.proofs.SessionTurns.{one_empty}
use Rattle.serve_work.proofs.live.opening.Hall.seat_all.Goals as goal

pub seat_one-requires : goal.seat_one-requires
seat_one-requires g c =
    let inv = c.loop-seat.invariant in
    let steps = c.in-Some.ensures.steps in
    record {
      places = inv.places;
      room_for_stream = omega (arith, inv.few, steps.0.1, c.requires.few_seats);
      tickets_fit = inv.tickets_fit;
      ready = (ready_split _ _ _ _ _ _ steps.0.0 steps.1.0 inv.ready).0;
      idle = inv.idle;
      no_calls = (subst (AllByRecursion HasNoCalls) steps.0.0 inv.no_calls).0;
    }

pub loop-seat-preserved : goal.loop-seat-preserved
loop-seat-preserved g c =
    let inv = c.loop-seat.invariant in
    let steps = c.in-Some.ensures.steps in
    record {
      places = c.seat_one.ensures.places;
      turns = turns_more _ _ _ _ _ _ _ _ _ steps.0.0 steps.1.0 inv.turns c.seat_one.ensures.turns;
      tickets = tickets_more _ _ _ _ _ _ _ _ _ steps.0.0 steps.1.0 inv.tickets c.seat_one.ensures.tickets;
      ready = (ready_split _ _ _ _ _ _ steps.0.0 steps.1.0 inv.ready).1;
      seats_left = omega (arith, inv.seats_left, ap length steps.0.0, steps.0.1);
      guests_left = omega (arith, inv.guests_left, ap length steps.1.0, steps.1.1);
      few = omega (arith, inv.few, steps.0.1, c.seat_one.ensures.one_more);
      tickets_fit = c.seat_one.ensures.tickets_fit;
      no_calls = (subst (AllByRecursion HasNoCalls) steps.0.0 inv.no_calls).1;
      idle = c.seat_one.ensures.idle;
    }

pub returns : goal.returns
returns g c =
    let inv = c.loop-seat.invariant in
    let all = all_made _ _ _ _ _ _ (one_empty _ _ _ _ inv.seats_left inv.guests_left c.in-None.ensures.steps) inv.turns inv.tickets
    in
    record { places = inv.places; turns = all.0; tickets = all.1; turns_within = omega (arith, inv.few); idle = inv.idle }
