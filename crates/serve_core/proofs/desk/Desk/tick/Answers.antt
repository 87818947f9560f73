use Rattle.std.proofs.Common.{◌≡◌, ◌∙◌, ap, max, subst, sym}
use Rattle.serve_core.specs.declared.desk.Desk.TheInside.{Inside}
use Rattle.serve_core.specs.Bare.{measures_any, is_any_image}
use Rattle.serve_core.specs.Desk.{LeadsDesk, desk_state, ticked}
use Rattle.serve_core.specs.DeskInside.{IsDesk}
use Rattle.serve_core.specs.Reached.{IsReached}
use Rattle.serve_core.specs.Schedule.{ScheduleValue}
use Rattle.serve_core.specs.Ticked.{at_moment}
use Rattle.serve_core.proofs.Calls.Desks.{desk_on}
use Rattle.serve_core.proofs.Calls.Offers.{at_clock, moment_led, moment_reached}
use Rattle.serve_core.proofs.desk.Desk.tick.Goals as goal

gone_on : (c : goal.After-tick) → c.tick.new.self ≡ at_moment c.args.at c.self.inside.schedule
gone_on c =
    let old = c.self.inside.schedule in
    let later = c.max-now.ensures ∙ ap (λ (x : Inside). max x.schedule.clock c.args.at) c.self-inside.view_is in
    c.tick.ensures ∙ at_clock old c.max-now.result (max old.clock c.args.at) later

-- and so for what a contract sees
gone_on_seen : (c : goal.After-tick) → c.tick.new.self ≡ at_moment c.args.at c.args.self.now
gone_on_seen c = gone_on c ∙ ap (at_moment c.args.at) c.self.view_is

pub invariant_of-self : goal.invariant_of-self
invariant_of-self c =
    let old = c.self.inside.schedule in
    subst IsDesk (sym (gone_on c))
    (desk_on old (at_moment c.args.at old) (ticked old.clock c.args.at) c.self.invariant
    (moment_led old c.args.at c.requires.moment) c.self.invariant.away c.self.invariant.unused)

pub returns-clause-events : goal.returns-clause-events
returns-clause-events c =
    let old = c.args.self.now in
    subst (LeadsDesk old (ticked old.clock c.args.at)) (sym (gone_on_seen c)) (moment_led old c.args.at c.requires.moment)

pub returns-clause-desk : goal.returns-clause-desk
returns-clause-desk c = gone_on_seen c

pub returns-clause-reached : goal.returns-clause-reached
returns-clause-reached c r =
    subst (λ (x : ScheduleValue). IsReached measures_any is_any_image (desk_state x)) (sym (gone_on_seen c))
    (moment_reached c.args.self.now c.args.at c.requires.moment r)
