use Rattle.std.proofs.Common.{◌≡◌, arith, refl, ◌∙◌}
use Rattle.std.specs.Int.{div_ceil}
use Rattle.filters.proofs.ChainOutputs.{sum_more}
use Rattle.filters.proofs.chain.plan.op_of_step.Goals as goal

pub loop-op-preserved : goal.loop-op-preserved
loop-op-preserved c =
    let bands : c.count-bands.result ≡ div_ceil c.index-outputs-op.result.height c.args.band_height.rows =
    c.count-bands.ensures.value ∙ rw (c.new.ensures.geometry, c.new.ensures.height) refl in
    let more =
    sum_more c.args.outputs.now c.args.band_height.rows c.loop-op.op c.index-outputs-op.result
    c.loop-op-test.true c.index-outputs-op.is in
    omega (arith, more)
