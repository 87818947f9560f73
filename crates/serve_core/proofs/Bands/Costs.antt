-- What bands cost together.
use Rattle.std.proofs.Common.{ℕ, ◌+◌, ◌≡◌, ◌≤◌, ◌<◌, ap, arith, List, ◌∷◌, length, sum, take_all}
use Rattle.std.proofs.lemmas.List.Sums.{sum_by-cons, sum_by_more, sum_by-take-le}
use Rattle.filters.specs.declared.limits.TheConstants.{MOST_COST}
use Rattle.filters.specs.Chain.{ChainValue}
use Rattle.filters.specs.Costs.{step_costs}
use Rattle.filters.specs.Steps.{steps_of}
use Rattle.filters.proofs.Costs.{length-costs_by, steps_within}
use Rattle.serve_core.specs.Grants.{cost_of_band, cost_of_first}
use Rattle.serve_core.specs.Setup.{IsWithinLimits, StreamSpec, steps}

pub sum_cons : (c : ℕ) (costs : List ℕ) → sum (c ∷ costs) ≡ c + sum costs
sum_cons c costs = sum_by-cons (λ (x : ℕ). x) c costs

-- one band more
pub cost_more : (k : ℕ) (costs : List ℕ) → k < length costs
    → cost_of_first (k + 1) costs ≡ cost_of_first k costs + cost_of_band k costs
cost_more k costs l = sum_by_more (λ (x : ℕ). x) costs k 0 l

-- all bands
pub cost_all : (costs : List ℕ) → cost_of_first (length costs) costs ≡ sum costs
cost_all costs = ap sum (take_all (length costs) costs (omega arith))

pub cost_within : (k : ℕ) (costs : List ℕ) → cost_of_first k costs ≤ sum costs
cost_within k costs = sum_by-take-le (λ (x : ℕ). x) costs k

-- a band costs at least one unit, so a frame has few
pub few_steps : (spec : StreamSpec) → IsWithinLimits spec → steps spec ≤ MOST_COST
few_steps spec v =
    let ops = spec.chain.ops in
    let height = spec.chain.geometry.height in
    let rows = spec.chain.band_height.rows in
    omega (arith, length-costs_by ops height rows, steps_within ops height rows, v.cost)

-- each step has a cost
pub steps_are : (chain : ChainValue) → length (step_costs chain) ≡ steps_of chain
steps_are chain = length-costs_by chain.ops chain.geometry.height chain.band_height.rows
