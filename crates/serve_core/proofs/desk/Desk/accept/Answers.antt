use Rattle.std.proofs.Common.{◌≡◌, ◌∙◌, ap, max, subst}
use Rattle.serve_core.specs.declared.desk.Desk.TheInside.{Inside}
use Rattle.serve_core.specs.Desk.{LeadsDesk, offered}
use Rattle.serve_core.specs.DeskInside.{IsDesk}
use Rattle.serve_core.specs.Schedule.{ScheduleValue}
use Rattle.serve_core.specs.Ticked.{at_moment}
use Rattle.serve_core.proofs.Calls.Offers.{accepted, at_clock}
use Rattle.serve_core.proofs.desk.Desk.accept.Goals as goal

gone_on : (c : goal.After-accept) → c.tick.new.self ≡ at_moment c.args.at c.self.inside.schedule
gone_on c =
    let old = c.self.inside.schedule in
    let later = c.max-moment.ensures ∙ ap (λ (x : Inside). max x.schedule.clock c.args.at) c.self-inside.view_is in
    c.tick.ensures ∙ at_clock old c.max-moment.result (max old.clock c.args.at) later

made : (c : goal.After-accept)
    → LeadsDesk c.self.inside.schedule (offered c.self.inside.schedule.clock c.args.s c.args.at c.accept.result)
    c.accept.new.self × IsDesk c.accept.new.self
made c =
    accepted c.self.inside.schedule c.tick.new.self c.accept.new.self c.args.s c.args.at c.accept.result
    c.args.job c.self.invariant c.requires.moment (rw (← c.self.view_is) at c.requires.stream) (gone_on c)
    c.accept.ensures

pub invariant_of-self : goal.invariant_of-self
invariant_of-self c = (made c).1

pub returns-clause-events : goal.returns-clause-events
returns-clause-events c =
    subst (λ (x : ScheduleValue). LeadsDesk x (offered x.clock c.args.s c.args.at c.accept.result) c.accept.new.self)
    c.self.view_is (made c).0
