use Rattle.std.proofs.Common.{ap, arith, length}
use Rattle.serve_work.proofs.SessionTurns.{all_told, none_told, told_one}
use Rattle.serve_work.proofs.session.interval.tell.Goals as goal

pub loop-stream-init : goal.loop-stream-init
loop-stream-init g c =
    let given = c.into_iter-stream-iterator.ensures.into_iter_gives in
    record {
      told = none_told _ c.args.streams.items _ c.args.served.now.items tt c.requires.none given.0;
      left = omega (arith, ap length given.0, given.1, c.args.streams.ok.0);
      room = omega (arith, given.1, c.requires.room, ap length c.requires.none, c.args.served.now.ok.0);
    }

pub loop-stream-preserved : goal.loop-stream-preserved
loop-stream-preserved g c =
    let inv = c.loop-stream.invariant in
    let steps = c.in-Some.ensures.steps in
    record {
      told = told_one c.args.streams.items _ _ c.loop-stream.served.items _ c.in-Some.stream _ inv.told steps.0
          c.push_reserved.ensures.items (c.into_served.ensures, tt);
      left = omega (arith, inv.left, ap length steps.0, steps.1);
      room = omega (arith, inv.room, steps.1, c.push_reserved.ensures.len, c.push_reserved.ensures.capacity);
    }

pub returns : goal.returns
returns g c =
    let inv = c.loop-stream.invariant in
    all_told _ c.args.streams.items _ c.loop-stream.served.items inv.told (omega (arith, inv.left, c.in-None.ensures.steps.0))
