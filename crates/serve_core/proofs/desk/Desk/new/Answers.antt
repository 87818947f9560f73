use Rattle.std.proofs.Common.{◌∙◌, ap, subst, sym}
use Rattle.serve_core.specs.Desk.{desk_state}
use Rattle.serve_core.specs.DeskInside.{IsDesk}
use Rattle.serve_core.proofs.Calls.Desks.{desk_opened, is_desk_opened}
use Rattle.serve_core.proofs.desk.Desk.new.Goals as goal

pub invariant_of-result : goal.invariant_of-result
invariant_of-result c =
    subst IsDesk (sym c.in_ok-schedule.ensures) (is_desk_opened c.args.setup c.recall_limits.ensures)

pub returns-clause-state : goal.returns-clause-state
returns-clause-state c = ap desk_state c.in_ok-schedule.ensures ∙ desk_opened c.args.setup
