use Rattle.std.proofs.Common.{ap, arith, length}
use Rattle.serve_work.proofs.SessionTurns.{all_seated, one_empty, ready_more, seated_more}
use Rattle.serve_work.proofs.session.turn.pair_with_seats.Goals as goal

pub loop-seat-preserved : goal.loop-seat-preserved
loop-seat-preserved g c =
    let inv = c.loop-seat.invariant in
    let steps = c.in-Some.ensures.steps in
    record {
      told = seated_more _ _ _ _ _ _ _ _ _ _ steps.0.0 steps.1.0 inv.told c.new.ensures c.push_reserved.ensures.items;
      ready = ready_more _ _ _ _ _ _ steps.0.0 steps.1.0 inv.ready;
      seats_left = omega (arith, inv.seats_left, ap length steps.0.0, steps.0.1);
      streams_left = omega (arith, inv.streams_left, ap length steps.1.0, steps.1.1);
      room = omega (arith, inv.room, steps.1.1, c.push_reserved.ensures.len, c.push_reserved.ensures.capacity);
    }

pub returns : goal.returns
returns g c =
    let inv = c.loop-seat.invariant in
    all_seated c.loop-seat.turns.items _ _ _
    (one_empty _ _ _ _ inv.seats_left inv.streams_left c.in-None.ensures.steps) inv.told
