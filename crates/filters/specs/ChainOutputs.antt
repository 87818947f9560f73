-- What a chain keeps of its operations' outputs.
use Rattle.std.specs.Prelude.{◌≡◌, ℕ, List, [], ◌∷◌, map}
use Rattle.std.specs.Int.{div_ceil}
use Rattle.frame_view.specs.declared.geometry.Geometry.{Geometry}
use Rattle.filters.specs.declared.op.Op.{Op}
use Rattle.filters.specs.Chain.{Format, format_of, format_after}

-- the format after each operation, in order
abbrev pub formats_after : List Op → Format → List Format
formats_after [] format = []
formats_after (op ∷ ops) format = format_after op format ∷ formats_after ops (format_after op format)

-- these are the geometries after each operation
abbrev pub AreOutputs : List Op → Geometry → List Geometry → Type 0
AreOutputs ops g outputs = map format_of outputs ≡ formats_after ops (format_of g)

-- how many bands of b rows each output has
abbrev pub output_counts : List Geometry → ℕ → List ℕ
output_counts outputs b = map (λ output. div_ceil output.height b) outputs
