use Rattle.std.proofs.Common.{ap, arith, length}
use Rattle.serve_work.proofs.Retiring.{marked_made, marked_more}
use Rattle.serve_work.proofs.SessionTurns.{one_empty}
use Rattle.serve_work.proofs.live.retirement.keep_marked.Goals as goal

pub keep_one-requires : goal.keep_one-requires
keep_one-requires g c =
    let inv = c.loop-mark.invariant in
    let steps = c.in-Some.ensures.steps in
    record { room = omega (arith, inv.room, steps.1.1) }

pub loop-mark-preserved : goal.loop-mark-preserved
loop-mark-preserved g c =
    let inv = c.loop-mark.invariant in
    let steps = c.in-Some.ensures.steps in
    record {
      kept = marked_more _ _ _ _ _ _ _ _ _ steps.0.0 steps.1.0 inv.kept c.keep_one.ensures.appends_marked;
      marks_left = omega (arith, inv.marks_left, ap length steps.0.0, steps.0.1);
      guests_left = omega (arith, inv.guests_left, ap length steps.1.0, steps.1.1);
      room = omega (arith, inv.room, steps.1.1, c.keep_one.ensures.one_more, c.keep_one.ensures.same_room);
    }

pub returns : goal.returns
returns g c =
    let inv = c.loop-mark.invariant in
    marked_made c.loop-mark.kept.items _ _ _
    (one_empty _ _ _ _ inv.marks_left inv.guests_left c.in-None.ensures.steps) inv.kept
