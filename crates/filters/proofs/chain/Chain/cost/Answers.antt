use Rattle.std.proofs.Common.{◌≤◌, arith, sym}
use Rattle.filters.specs.Steps.{steps_of}
use Rattle.filters.specs.Costs.{cost_of}
use Rattle.filters.specs.ChainInside.{kept_chain}
use Rattle.filters.proofs.Costs.{steps_within}
use Rattle.filters.proofs.chain.Chain.cost.Goals as goal

pub returns-clause-unit_per_step : goal.returns-clause-unit_per_step
returns-clause-unit_per_step c =
    let inside = c.self.inside in
    let within : steps_of (kept_chain inside) ≤ cost_of (kept_chain inside) =
    steps_within inside.ops.items inside.geometry.height inside.band_height.rows in
    rw (sym c.self.view_is) (omega (arith, within, c.self.invariant))
