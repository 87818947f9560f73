use Rattle.std.proofs.Common.{ap, arith, length, subst}
use Rattle.serve_work.specs.SessionInside.{AreUnread}
use Rattle.serve_work.specs.Sessions.{unread}
use Rattle.serve_work.proofs.SessionTurns.{all_made, made_more}
use Rattle.serve_work.proofs.session.turn.streams_of.Goals as goal

pub loop-reader-preserved : goal.loop-reader-preserved
loop-reader-preserved g c =
    let inv = c.loop-reader.invariant in
    let steps = c.in-Some.ensures.steps in
    record {
      told = made_more (unread g.W.Sink.contents g.W.Sink.failures) _ _ _ _ _ _ _ inv.told steps.0 c.push_reserved.ensures.items c.new.ensures;
      unread = (subst AreUnread steps.0 inv.unread).1;
      left = omega (arith, inv.left, ap length steps.0, steps.1);
      room = omega (arith, inv.room, steps.1, c.push_reserved.ensures.len, c.push_reserved.ensures.capacity);
    }

pub returns-clause-streams : goal.returns-clause-streams
returns-clause-streams g c =
    let inv = c.loop-reader.invariant in
    all_made _ _ _ _ (omega (arith, inv.left, c.in-None.ensures.steps.0)) inv.told
