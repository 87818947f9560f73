use Rattle.std.proofs.Common.{◌∙◌}
use Rattle.filters.proofs.ChainDoable.{doable_next}
use Rattle.filters.proofs.ChainOutputs.{outputs_next}
use Rattle.filters.proofs.chain.plan.outputs_of.Goals as goal

pub loop-op-preserved : goal.loop-op-preserved
loop-op-preserved c =
    let h = c.loop-op-test.true in
    let image = c.output_of-reached.ensures in
    record {
      doable = doable_next _ _ _ _ _ h image c.loop-op.invariant.doable;
      made = outputs_next _ _ _ _ _ _ _ h image c.in_ok-push.ensures.items ∙ c.loop-op.invariant.made;
    }
