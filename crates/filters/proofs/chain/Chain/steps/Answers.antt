use Rattle.std.proofs.Common.{◌≤◌, arith, sym, ◌∙◌}
use Rattle.filters.specs.Steps.{steps_of}
use Rattle.filters.specs.Costs.{cost_of}
use Rattle.filters.specs.ChainInside.{kept_chain}
use Rattle.filters.proofs.Costs.{length-costs_by, steps_within}
use Rattle.filters.proofs.chain.Chain.steps.Goals as goal

pub returns-clause-costs : goal.returns-clause-costs
returns-clause-costs c =
    let inside = c.self.inside in
    rw (sym c.self.view_is)
    (length-costs_by inside.ops.items inside.geometry.height inside.band_height.rows
    ∙ sym c.self.invariant.steps)

pub returns-clause-within_limit : goal.returns-clause-within_limit
returns-clause-within_limit c =
    let inside = c.self.inside in
    let within : steps_of (kept_chain inside) ≤ cost_of (kept_chain inside) =
    steps_within inside.ops.items inside.geometry.height inside.band_height.rows in
    omega (arith, within, c.self.invariant)
