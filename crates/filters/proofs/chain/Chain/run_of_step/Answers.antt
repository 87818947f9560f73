use Rattle.std.proofs.Common.{◌≡◌, get_or, ap, ◌∙◌}
use Rattle.filters.specs.Steps.{counts_of}
use Rattle.filters.proofs.ChainSteps.{count_of_output}
use Rattle.filters.proofs.Costs.{run_at}
use Rattle.filters.proofs.chain.Chain.run_of_step.Goals as goal

pub returns-clause-run : goal.returns-clause-run
returns-clause-run c =
    let step = c.op_of_step-op.ensures.step in
    let height = ap (λ chain. chain.band_height.rows) c.self.view_is in
    let bands : c.count-bands.result ≡ get_or (counts_of c.args.self.now) c.op_of_step-op.result.0 0 =
    c.count-bands.ensures.value ∙ rw (c.new.ensures.geometry, c.new.ensures.height, height)
    (count_of_output c.args.self.now c.op_of_step-op.result.0 c.geometry_after.result step.of_chain
    c.geometry_after.ensures) in
    run_at _ _ _ _ c.count-bands.result c.cost.result c.op.result step bands c.op.ensures.value
    c.cost.ensures.value
