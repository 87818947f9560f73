use Rattle.std.proofs.Common.{◌≡◌, ◌∙◌, length, ap, refl, sym, arith}
use Rattle.std.specs.Vec.Iter.{into_iter_items}
use Rattle.serve_work.proofs.SessionTurns.{first_held, has_held, parted_all, parted_more, parted_none}
use Rattle.serve_work.proofs.session.places.Places.fill.Goals as goal

pub loop-turn-init : goal.loop-turn-init
loop-turn-init g c =
    let given = c.into_iter-turn-iterator.ensures.into_iter_gives in
    let places = c.args.self.now in
    let empty = c.requires.places in
    record {
      parts = parted_none c.args.turns.items _ places.seats.items places.streams.items empty.no_seats empty.no_streams given.0;
      left = omega (arith, ap length given.0, given.1, c.args.turns.ok.0);
      same_room = refl;
      seats = omega (arith, given.1, empty.seats, ap length empty.no_seats, places.seats.ok.0);
      streams = omega (arith, given.1, empty.streams, ap length empty.no_streams, places.streams.ok.0);
    }

pub unreachable-requires : goal.unreachable-requires
unreachable-requires g c =
    let was = c.loop-turn.invariant.parts c.requires.held.0 c.requires.held.1 in
    let first = first_held c.in-Some.turn _ was.0 (sym c.in-Some.ensures.steps.0 ∙ was.1) in
    has_held c.in-Some.turn first.0 first.3 (sym c.into_held.ensures ∙ c.in_default.is)

pub loop-turn-preserved : goal.loop-turn-preserved
loop-turn-preserved g c =
    let inv = c.loop-turn.invariant in
    let steps = c.in-Some.ensures.steps in
    let places = c.loop-turn.self in
    record {
      parts = parted_more c.args.turns.items _ _ c.in-Some.turn places.seats.items _ places.streams.items _
          c.in-Some-into_held.held _ c.part-seat.result.1 inv.parts steps.0
          (sym c.into_held.ensures ∙ c.in-Some-into_held.is) c.part-seat.ensures.seat
          c.push_reserved.ensures.items c.push_reserved-in-loop-turn.ensures.items c.part-seat.ensures.stream;
      left = omega (arith, inv.left, ap length steps.0, steps.1);
      same_room = c.push_reserved.ensures.capacity ∙ inv.same_room;
      seats = omega (arith, inv.seats, steps.1, c.push_reserved.ensures.len, c.push_reserved.ensures.capacity);
      streams = omega (
        arith,
        inv.streams,
        steps.1,
        c.push_reserved-in-loop-turn.ensures.len,
        c.push_reserved-in-loop-turn.ensures.capacity,
      );
    }

pub returns : goal.returns
returns g c =
    let inv = c.loop-turn.invariant in
    let none : length (into_iter_items c.loop-turn.turn-iterator) ≡ 0 = omega (arith, inv.left, c.in-None.ensures.steps.0) in
    let parted = parted_all c.args.turns.items _ c.loop-turn.self.seats.items c.loop-turn.self.streams.items inv.parts none in
    record { seats = λ helds e. (parted helds e).0; streams = λ helds e. (parted helds e).1; same_room = inv.same_room }
