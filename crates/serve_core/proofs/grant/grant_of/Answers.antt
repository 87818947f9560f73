use Rattle.std.proofs.Common.{arith, drop, length-drop}
use Rattle.filters.specs.Costs.{step_costs}
use Rattle.serve_core.proofs.Bands.Grants.{paid_left}
use Rattle.serve_core.proofs.grant.grant_of.Goals as goal

pub overflow_cast-result : goal.overflow_cast-result
overflow_cast-result c =
    let costs = step_costs c.args.chain.now in
    omega (arith, paid_left c.args.quantum c.args.budget (drop c.args.done costs), length-drop c.args.done costs)
