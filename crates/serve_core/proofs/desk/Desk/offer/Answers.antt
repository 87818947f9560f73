use Rattle.std.proofs.Common.{subst, rules}
use Rattle.serve_core.specs.Desk.{IsFreshFor}
use Rattle.serve_core.specs.Schedule.{ScheduleValue}
use Rattle.serve_core.proofs.Calls.Offers.{fresh_for}
use Rattle.serve_core.proofs.desk.Desk.offer.Goals as goal

pub returns-in-Ok-clause-job : goal.returns-in-Ok-clause-job
returns-in-Ok-clause-job c =
    let fresh = fresh_for c.self.inside.schedule c.args.s c.in-Ok.job c.in-Ok.ensures.ok in (
      c.in-Ok.job,
      c.in-Ok.ensures.source,
      subst (λ (x : ScheduleValue). IsFreshFor x c.args.s c.in-Ok.job) c.self.view_is fresh,
      c.accept.ensures.job,
    )

pub returns-in-Err-clause-returns_frame : goal.returns-in-Err-clause-returns_frame
returns-in-Err-clause-returns_frame c = search rules
