-- Which operations make a chain, and why others make none.
use Rattle.std.specs.Prelude.{◌<◌, ◌≤◌, All, length}
use Rattle.filters.specs.declared.error.FilterError.{FilterError}
use Rattle.filters.specs.declared.error.FilterError.TheVariants.{BadOp, TooManyOps, BadCrop}
use Rattle.filters.specs.declared.error.FilterError.TheVariants.{TooManySteps, NoMemory}
use Rattle.filters.specs.declared.limits.TheConstants.{MOST_COST}
use Rattle.filters.specs.Ops.{HasGoodRadius}
use Rattle.filters.specs.Chain.{ChainValue, IsChainLength, AreDoable}
use Rattle.filters.specs.Costs.{cost_of}

-- the operations make a chain for frames of this geometry, in bands of this height
pub record IsChain (chain : ChainValue) : Type 0 where
  pub radii : All HasGoodRadius chain.ops
  pub count : IsChainLength (length chain.ops)
  pub doable : AreDoable chain.ops chain.geometry
  pub cheap : cost_of chain ≤ MOST_COST

-- the refusal is the first that holds of the operations; want of memory stands last, where they make a chain
abbrev pub IsChainRefusedAs : FilterError → ChainValue → Type 0
IsChainRefusedAs BadOp chain = ¬ All HasGoodRadius chain.ops
IsChainRefusedAs TooManyOps chain = All HasGoodRadius chain.ops × ¬ IsChainLength (length chain.ops)
IsChainRefusedAs BadCrop chain =
    All HasGoodRadius chain.ops × IsChainLength (length chain.ops) × ¬ AreDoable chain.ops chain.geometry
IsChainRefusedAs TooManySteps chain =
    All HasGoodRadius chain.ops × IsChainLength (length chain.ops) × AreDoable chain.ops chain.geometry
    × (MOST_COST < cost_of chain)
IsChainRefusedAs NoMemory chain = IsChain chain
