use Rattle.std.proofs.Common.{◌≤◌, IsSome, MatchOption, arith, subst}
use Rattle.serve_core.specs.Desk.{IsHeldBy, LeadsDesk, TakesBack, TakesImage, settlement}
use Rattle.serve_core.specs.Schedule.{HasLease, ScheduleValue}
use Rattle.serve_core.proofs.Calls.Settlements.{BringsJob, Settles, brings, brought_leased, settles}
use Rattle.serve_core.proofs.desk.Desk.take_back.Goals as goal

pub return_job-requires : goal.return_job-requires
return_job-requires c =
    let known : IsHeldBy c.self.inside.schedule c.args.w c.args.lease = rw (← c.self.view_is) at c.requires.recorded in
    let holds : HasLease c.self.inside.schedule c.args.w c.args.held = rw (← c.self.view_is) at c.requires.holds in
    let within : c.args.lease.used ≤ c.args.lease.granted = omega arith in
    let started : IsSome c.args.lease.job.scratch = rw c.into_job-job.ensures.value at c.into_job-job.ensures.started in
    rw (c.into_job-job.ensures.value, c.used-bands.ensures.value) (brings c.self.inside.schedule c.args.w
    c.spent-units.result c.args.held c.args.lease c.self.invariant holds known within started
    c.spent-units.ensures)

pub settle-requires-clause-stream : goal.settle-requires-clause-stream
settle-requires-clause-stream c =
    brought_leased c.self.inside.schedule c.return_job.new.self c.args.held.stream c.used-bands.result
    c.into_job-job.result c.return_job.ensures

settled : (c : goal.After-settle)
    → Settles c.self.inside.schedule c.settle.new.self c.args.w c.args.lease c.settle.result
settled c =
    let known : IsHeldBy c.self.inside.schedule c.args.w c.args.lease = rw (← c.self.view_is) at c.requires.recorded in
    let holds : HasLease c.self.inside.schedule c.args.w c.args.held = rw (← c.self.view_is) at c.requires.holds in
    let within : c.args.lease.used ≤ c.args.lease.granted = omega arith in
    let back : BringsJob c.self.inside.schedule c.args.held.stream c.args.lease.job c.args.lease.used
    c.return_job.new.self =
    rw (c.into_job-job.ensures.value, c.used-bands.ensures.value) at c.return_job.ensures in
    settles c.self.inside.schedule c.return_job.new.self c.settle.new.self c.args.w c.args.held c.args.lease
    c.settle.result c.self.invariant holds known within back c.settle.ensures.requeued
    c.settle.ensures.finished

pub invariant_of-self : goal.invariant_of-self
invariant_of-self c = (settled c).2

pub returns-clause-events : goal.returns-clause-events
returns-clause-events c =
    subst (λ (x : ScheduleValue). LeadsDesk x (settlement c.args.w c.args.lease.used c.settle.result) c.settle.new.self)
    c.self.view_is (settled c).0

pub returns-clause-job : goal.returns-clause-job
returns-clause-job c =
    subst (λ (x : ScheduleValue). MatchOption c.settle.result (TakesBack c.args.w c.args.lease x c.settle.new.self)
    (λ number. TakesImage c.args.w c.args.lease number x c.settle.new.self)) c.self.view_is (settled c).1
