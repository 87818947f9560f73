-- The steps of a frame: one for each band of each operation's output.
use Rattle.std.specs.Prelude.{◌≡◌, ℕ, ◌+◌, ◌<◌, List, [], ◌∷◌, length, take, sum, slice_index}
use Rattle.std.specs.Int.{div_ceil}
use Rattle.filters.specs.declared.op.Op.{Op}
use Rattle.filters.specs.Ops.{image_height}
use Rattle.filters.specs.Chain.{ChainValue}

-- how many bands of b rows the output of each operation has, for frames of h rows
abbrev pub band_counts : List Op → ℕ → ℕ → List ℕ
band_counts [] h b = []
band_counts (op ∷ ops) h b = div_ceil (image_height op h) b ∷ band_counts ops (image_height op h) b

-- the steps of a frame of h rows
abbrev pub step_count : List Op → ℕ → ℕ → ℕ
step_count ops h b = sum (band_counts ops h b)

-- step k is this band of this operation: the bands of an operation follow those of the operations before it
pub record IsStep (counts : List ℕ) (k op band : ℕ) : Type 0 where
  pub of_chain : op < length counts
  pub of_op : band < slice_index counts op
  pub number : sum (take op counts) + band ≡ k

abbrev pub counts_of : ChainValue → List ℕ
counts_of chain = band_counts chain.ops chain.geometry.height chain.band_height.rows

abbrev pub steps_of : ChainValue → ℕ
steps_of chain = step_count chain.ops chain.geometry.height chain.band_height.rows
