use Rattle.serve_script.proofs.Sessions.{running_first}
use Rattle.serve_script.proofs.session.running.Session.new.Goals as goal

pub invariant_of-result : goal.invariant_of-result
invariant_of-result c =
    running_first c.args.streams c.args.setup c.in_ok-machine.machine c.recall_limits.ensures c.requires c.in_ok-machine.ensures
