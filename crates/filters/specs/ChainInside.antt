-- What a chain keeps, and what it stands for.
use Rattle.std.specs.Prelude.{◌≡◌, ◌≤◌, length}
use Rattle.filters.specs.declared.chain.Chain.TheInside.{Inside}
use Rattle.filters.specs.declared.limits.TheConstants.{MOST_COST}
use Rattle.filters.specs.Chain.{ChainValue, IsChainLength}
use Rattle.filters.specs.Steps.{steps_of}
use Rattle.filters.specs.Costs.{cost_of}
use Rattle.filters.specs.Refusal.{IsChain}
use Rattle.filters.specs.ChainOutputs.{AreOutputs}

abbrev pub kept_chain : Inside → ChainValue
kept_chain a = record { ops = a.ops.items; geometry = a.geometry; band_height = a.band_height }

-- the outputs and the number of steps are those of the chain
pub record IsKeptChain (a : Inside) : Type 0 where
  pub is_chain : ∥ IsChain (kept_chain a) ∥₁
  pub count : IsChainLength (length a.ops.items)
  pub outputs : AreOutputs a.ops.items a.geometry a.outputs.items
  pub steps : a.steps ≡ steps_of (kept_chain a)
  pub cost : a.cost ≡ cost_of (kept_chain a)
  pub some_steps : 1 ≤ a.steps
  pub cheap : a.cost ≤ MOST_COST
