-- What is known of the bytes that a file holds that is written.
use Rattle.std.specs.Prelude.{ℕ, ◌≡◌, ⊤, List, Option, None}
use Rattle.serve_files.specs.declared.outlet.Outflow.{Outflow}
use Rattle.serve_files.specs.declared.outlet.Outflow.TheVariants as outflow
use Rattle.serve_files.specs.declared.outlet.Outlet.{Outlet}
use Rattle.serve_files.specs.declared.outlet.Outlet.TheVariants as outlet

-- the bytes that it holds, where they are known: those of a file whose writes may wait aren't
abbrev pub outlet_contents : {W S : Type 0} → (W → Option (List ℕ)) → Outlet W S → Option (List ℕ)
outlet_contents prompt (outlet.Prompt writer) = prompt writer
outlet_contents prompt (outlet.Slow writer) = None

-- the same where its writes can be waited for a while
abbrev pub outflow_contents : {W S T : Type 0} → (W → Option (List ℕ)) → Outflow W S T → Option (List ℕ)
outflow_contents prompt (outflow.Prompt writer) = prompt writer
outflow_contents prompt (outflow.Slow writer) = None
outflow_contents prompt (outflow.Relayed relay) = None

-- a prompt file is written as it is, and one that may wait is not taken for prompt
abbrev pub IsOutflowOf : {W S T : Type 0} → Outlet W S → Outflow W S T → Type 0
IsOutflowOf (outlet.Prompt writer) flow = flow ≡ outflow.Prompt writer
IsOutflowOf (outlet.Slow writer) (outflow.Prompt prompt) = ⊥
IsOutflowOf (outlet.Slow writer) (outflow.Slow slow) = slow ≡ writer
IsOutflowOf (outlet.Slow writer) (outflow.Relayed relay) = ⊤
