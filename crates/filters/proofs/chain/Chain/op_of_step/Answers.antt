use Rattle.std.proofs.Common.{◌<◌, length, arith, sym}
use Rattle.filters.specs.Steps.{IsStep, counts_of}
use Rattle.filters.specs.ChainInside.{kept_chain}
use Rattle.filters.proofs.ChainOutputs.{output_counts-are}
use Rattle.filters.proofs.ChainSteps.{length-band_counts, band_of}
use Rattle.filters.proofs.chain.Chain.op_of_step.Goals as goal

pub op_of_step-requires : goal.op_of_step-requires
op_of_step-requires c =
    let counts =
    output_counts-are _ _ c.self.inside.geometry c.self.inside.band_height.rows c.self.invariant.outputs in
    rw (c.deref.ensures.value, counts) (rw (sym c.self.view_is) at c.requires)

-- the step, of what the chain keeps
step : (c : goal.After-op_of_step)
    → IsStep (counts_of (kept_chain c.self.inside)) c.args.k c.op_of_step.result.0 c.op_of_step.result.1
step c =
    let counts =
    output_counts-are _ _ c.self.inside.geometry c.self.inside.band_height.rows c.self.invariant.outputs in
    rw (sym counts, sym c.deref.ensures.value) c.op_of_step.ensures

pub returns-clause-step : goal.returns-clause-step
returns-clause-step c = rw (sym c.self.view_is) (step c)

pub returns-clause-op : goal.returns-clause-op
returns-clause-op c =
    let within = (step c).of_chain in
    rw (sym c.self.view_is) (rw length-band_counts at within)

pub returns-clause-op_within_limit : goal.returns-clause-op_within_limit
returns-clause-op_within_limit c =
    let within = (step c).of_chain in
    let op : c.op_of_step.result.0 < length c.self.inside.ops.items = rw length-band_counts at within in
    omega (arith, op, c.self.invariant.count)

pub returns-clause-band : goal.returns-clause-band
returns-clause-band c output e =
    let at : IsStep (counts_of c.args.self.now) c.args.k c.op_of_step.result.0 c.op_of_step.result.1 =
    rw (sym c.self.view_is) (step c) in
    band_of c.args.self.now c.args.k c.op_of_step.result.0 c.op_of_step.result.1 output at e
