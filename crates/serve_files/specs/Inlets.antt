-- What is known of the bytes that a file has left.
use Rattle.std.specs.Prelude.{ℕ, ◌≡◌, ⊤, List, Option, None}
use Rattle.serve_files.specs.declared.inlet.Inflow.{Inflow}
use Rattle.serve_files.specs.declared.inlet.Inflow.TheVariants as inflow
use Rattle.serve_files.specs.declared.inlet.Inlet.{Inlet}
use Rattle.serve_files.specs.declared.inlet.Inlet.TheVariants as inlet

-- the bytes that reads will give, where they are known: those of a file that may wait aren't
abbrev pub inlet_remaining : {R S : Type 0} → (R → Option (List ℕ)) → Inlet R S → Option (List ℕ)
inlet_remaining prompt (inlet.Prompt reader) = prompt reader
inlet_remaining prompt (inlet.Slow reader) = None

-- the same where one can be asked whether a read would wait: behind a lookout they aren't known
abbrev pub inflow_remaining : {R S T : Type 0} → (R → Option (List ℕ)) → (S → Option (List ℕ)) → Inflow R S T
    → Option (List ℕ)
inflow_remaining prompt slow (inflow.Prompt reader) = prompt reader
inflow_remaining prompt slow (inflow.Slow reader) = slow reader
inflow_remaining prompt slow (inflow.Watched lookout) = None

-- a file is read as it is, and one that may wait is not taken for prompt
abbrev pub IsInflowOf : {R S T : Type 0} → Inlet R S → Inflow R S T → Type 0
IsInflowOf (inlet.Prompt reader) flow = flow ≡ inflow.Prompt reader
IsInflowOf (inlet.Slow reader) (inflow.Prompt prompt) = ⊥
IsInflowOf (inlet.Slow reader) (inflow.Slow slow) = slow ≡ reader
IsInflowOf (inlet.Slow reader) (inflow.Watched lookout) = ⊤
