use Rattle.std.proofs.Common.{sym, ap, subst, ◌∙◌}
use Rattle.serve_core.specs.Bare.{measures_any, is_any_image}
use Rattle.serve_core.specs.Desk.{desk_state}
use Rattle.serve_core.specs.DeskInside.{IsDesk}
use Rattle.serve_core.specs.Reached.{IsReached}
use Rattle.serve_core.specs.Retired.{AreFree, retired_schedule}
use Rattle.serve_core.specs.Schedule.{ScheduleValue}
use Rattle.serve_core.proofs.Schedules.Retiring.{desk_retired, reached_retired}
use Rattle.serve_core.proofs.desk.Desk.retire.Goals as goal

pub invariant_of-self : goal.invariant_of-self
invariant_of-self c =
    let free = subst (λ (x : ScheduleValue). AreFree x.workers) (sym c.self.view_is) c.requires.free in
    subst IsDesk (sym c.retire.ensures) (desk_retired c.self.inside.schedule c.self.invariant free)

pub returns-clause-reached : goal.returns-clause-reached
returns-clause-reached c r =
    let reached = λ (x : ScheduleValue). IsReached measures_any is_any_image (desk_state x) in
    subst reached (sym (c.retire.ensures ∙ ap retired_schedule c.self.view_is))
    (reached_retired c.args.self.now c.requires.free c.requires.some_stay r)
