-- What the steps of a frame cost, in the units that a stream's account is charged.
use Rattle.std.specs.Prelude.{◌≡◌, ℕ, ◌+◌, ◌≤◌, List, [], ◌∷◌, ◌++◌, drop, replicate, sum, slice_index}
use Rattle.std.specs.Int.{div_ceil}
use Rattle.filters.specs.declared.op.Op.{Op}
use Rattle.filters.specs.declared.chain.steps.StepRun.{StepRun}
use Rattle.filters.specs.Ops.{image_height}
pub use Rattle.filters.specs.Ops.{op_cost}
use Rattle.filters.specs.Chain.{ChainValue}
use Rattle.filters.specs.Steps.{IsStep, counts_of, steps_of}

-- the costs of the steps of a frame of h rows: each operation's cost, for each band of b rows of its output
abbrev pub costs_by : List Op → ℕ → ℕ → List ℕ
costs_by [] h b = []
costs_by (op ∷ ops) h b =
    replicate (div_ceil (image_height op h) b) (op_cost op) ++ costs_by ops (image_height op h) b

-- what each step of a frame costs, in order
abbrev pub step_costs : ChainValue → List ℕ
step_costs chain = costs_by chain.ops chain.geometry.height chain.band_height.rows

-- what a frame costs: all its steps
abbrev pub cost_of : ChainValue → ℕ
cost_of chain = sum (step_costs chain)

-- the steps from k on to the last of the same operation
pub record IsRun (chain : ChainValue) (k : ℕ) (run : StepRun) : Type 0 where
  pub some : 1 ≤ run.count
  pub within : k + run.count ≤ steps_of chain
  pub of_op : (op band : ℕ) → IsStep (counts_of chain) k op band
      → band + run.count ≡ slice_index (counts_of chain) op
  pub costs : drop k (step_costs chain)
      ≡ replicate run.count run.cost ++ drop (k + run.count) (step_costs chain)
