use Rattle.filters.proofs.Costs.{first_cost}
use Rattle.filters.proofs.chain.Chain.cost_of_step.Goals as goal

pub returns-clause-value : goal.returns-clause-value
returns-clause-value c = first_cost _ _ _ c.run_of_step.ensures.run
