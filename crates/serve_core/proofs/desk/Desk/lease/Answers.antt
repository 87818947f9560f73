use Rattle.std.proofs.Common.{subst}
use Rattle.serve_core.specs.Desk.{GivesJob, LeadsDesk, SomeReady, one}
use Rattle.serve_core.specs.Events.{Lease, Leased}
use Rattle.serve_core.specs.Schedule.{ScheduleValue}
use Rattle.serve_core.proofs.Calls.Lendings.{Gives, given_away, given_left, lent_job}
use Rattle.serve_core.proofs.desk.Desk.lease.Goals as goal

pub take_job-job-requires : goal.take_job-job-requires
take_job-job-requires c =
    lent_job c.self.inside.schedule c.lease.new.self c.args.w c.in_ok-held.held c.in_ok-held.ensures.ok.1

pub new-requires-clause-started : goal.new-requires-clause-started
new-requires-clause-started c =
    (given_left c.self.inside.schedule c.lease.new.self c.take_job-job.new.self c.args.w c.in_ok-held.held
    c.take_job-job.result c.self.invariant c.in_ok-held.ensures.ok.0 c.in_ok-held.ensures.ok.1
    c.take_job-job.ensures).0

pub new-requires-clause-left : goal.new-requires-clause-left
new-requires-clause-left c =
    (given_left c.self.inside.schedule c.lease.new.self c.take_job-job.new.self c.args.w c.in_ok-held.held
    c.take_job-job.result c.self.invariant c.in_ok-held.ensures.ok.0 c.in_ok-held.ensures.ok.1
    c.take_job-job.ensures).1

given : (c : goal.After-new) → Gives c.self.inside.schedule c.take_job-job.new.self c.args.w c.new.result
given c =
    given_away c.self.inside.schedule c.lease.new.self c.take_job-job.new.self c.args.w c.in_ok-held.held
    c.take_job-job.result c.new.result c.self.invariant c.in_ok-held.ensures.ok.0 c.in_ok-held.ensures.ok.1
    c.take_job-job.ensures c.new.ensures

pub invariant_of-self-2 : goal.invariant_of-self-2
invariant_of-self-2 c = (given c).2

pub returns-clause-events : goal.returns-clause-events
returns-clause-events c =
    subst (λ (x : ScheduleValue). LeadsDesk x (one (Lease c.args.w)
    (Leased c.new.result.stream c.new.result.number c.new.result.granted)) c.take_job-job.new.self) c.self.view_is
    (given c).0

pub returns-clause-job : goal.returns-clause-job
returns-clause-job c =
    subst (λ (x : ScheduleValue). GivesJob c.args.w c.new.result x c.take_job-job.new.self) c.self.view_is
    (given c).1

pub returns-clause-ready : goal.returns-clause-ready
returns-clause-ready c =
    subst SomeReady c.self.view_is (c.in_ok-held.held.stream, c.in_ok-held.ensures.ok.1.earliest)
