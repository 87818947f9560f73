use Rattle.std.proofs.Common.{◌∙◌, ap, sym, subst}
use Rattle.serve_core.specs.MachineInside.{IsMachine, machine}
use Rattle.serve_core.proofs.Schedules.Opened.{is_machine_opened, machine_opened}
use Rattle.serve_core.proofs.machine.Machine.new.Goals as goal

pub invariant_of-result : goal.invariant_of-result
invariant_of-result c =
    subst IsMachine (sym c.in_ok-schedule.ensures) (is_machine_opened c.args.setup c.recall_limits.ensures)

pub returns : goal.returns
returns c = ap machine c.in_ok-schedule.ensures ∙ machine_opened c.args.setup
