use Rattle.serve_client.proofs.Sized.{header_stays}
use Rattle.serve_work_tests.proofs.tests.pauses.steps.epoch.Goals as goal

pub invariant_of-result : goal.invariant_of-result
invariant_of-result g c =
    let at = c.requires.rest in
    let left = c.in-Paused.ensures.turn at.0 at.1 at.2 in (
      c.in-Paused.seat,
      c.prepare.new.other,
      c.end_epoch-ended.ensures,
      (at.0, at.1, left),
      header_stays at.0 at.1 at.1 c.args.seat c.in-Paused.seat c.args.rest c.in-Paused.rest at.2 left c.requires.header,
    )
