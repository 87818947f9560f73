use Rattle.std.proofs.Common.{◌≡◌, ◌++◌, drop, map}
use Rattle.filters.specs.Chain.{format_of, AreDoable}
use Rattle.filters.specs.ChainOutputs.{formats_after}
use Rattle.filters.proofs.chain.plan.outputs_of.Given as goal

abbrev pub invariant-loop-op : goal.invariant-loop-op
invariant-loop-op l = record {
  doable : AreDoable (drop l.op-index l.ops) l.reached;
  made : map format_of l.outputs.items ++ formats_after (drop l.op-index l.ops) (format_of l.reached)
      ≡ formats_after l.fn.ops (format_of l.fn.geometry);
}
