use Rattle.std.proofs.Common.{◌≡◌, ◌≤◌, ◌↔◌, ◌+◌, ◌*◌, drop, sum}
use Rattle.filters.specs.Chain.{AreDoable}
use Rattle.filters.specs.Steps.{step_count}
use Rattle.filters.specs.Costs.{costs_by}
use Rattle.filters.proofs.chain.plan.totals_of.Given as goal

abbrev pub invariant-loop-op : goal.invariant-loop-op
invariant-loop-op l = record {
  doable : AreDoable l.fn.ops l.fn.geometry ↔ AreDoable (drop l.op-index l.ops) l.reached;
  steps : l.steps + step_count (drop l.op-index l.ops) l.reached.height l.band_height.rows
      ≡ step_count l.fn.ops l.fn.geometry.height l.band_height.rows;
  cost : l.cost + sum (costs_by (drop l.op-index l.ops) l.reached.height l.band_height.rows)
      ≡ sum (costs_by l.fn.ops l.fn.geometry.height l.band_height.rows);
  some : l.op-index ≤ l.steps;
  few : l.steps ≤ 8192 * l.op-index;
  cheap : l.cost ≤ 73728 * l.op-index;
}
