use Rattle.std.proofs.Common.{◌+◌, ◌-◌, ◌≡◌, ◌≤◌, drop}
use Rattle.filters.specs.Costs.{step_costs}
use Rattle.filters.specs.Steps.{steps_of}
use Rattle.serve_core.specs.Grants.{paid_count}
use Rattle.serve_core.proofs.grant.paid_count.Given as goal

abbrev pub decreases-loop-k : goal.decreases-loop-k
decreases-loop-k l = steps_of l.fn.chain - l.k

abbrev pub invariant-loop-k : goal.invariant-loop-k
invariant-loop-k l = record {
  within : l.k ≤ steps_of l.fn.chain;
  most : l.paid + l.most ≡ l.fn.most;
  paid : paid_count l.fn.most l.fn.budget (drop l.fn.done (step_costs l.fn.chain))
      ≡ l.paid + paid_count l.most l.budget (drop l.k (step_costs l.fn.chain));
}
