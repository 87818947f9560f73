-- What a replay takes from its input, and how it counts the failures of its input and of its output.
use Rattle.std.specs.Prelude.{ℕ, ◌≡◌, ◌+◌, ⊤, List, drop, Option, Some, None, Result, Ok, Err}
use Rattle.y4m_stream.specs.Failures.{one_more}
use Rattle.serve_script.specs.declared.TheConstants.{SCRIPT_LIMIT}
use Rattle.serve_script.specs.declared.fault.ReplayFault.{ReplayFault}
use Rattle.serve_script.specs.declared.fault.ReplayFault.TheVariants.{Read, Write, NoMemory}

-- a read failed in the call exactly where this is the fault
abbrev pub reads_at : ReplayFault → ℕ → ℕ
reads_at Read n = one_more n
reads_at Write n = n
reads_at NoMemory n = n

-- a read failed in the call exactly where it answered that
abbrev pub reads_told : {T : Type 0} → Result T ReplayFault → ℕ → ℕ
reads_told (Ok x) n = n
reads_told (Err fault) n = reads_at fault n

-- a write or a flush failed in the call exactly where this is the fault
abbrev pub writes_at : ReplayFault → ℕ → ℕ
writes_at Read n = n
writes_at Write n = one_more n
writes_at NoMemory n = n

-- a write or a flush failed in the call exactly where it answered that
abbrev pub writes_told : {T : Type 0} → Result T ReplayFault → ℕ → ℕ
writes_told (Ok x) n = n
writes_told (Err fault) n = writes_at fault n

-- as many bytes were taken from the input as a script of the greatest size and one more has, or all of them
abbrev pub TakesScript : (old new : Option (List ℕ)) → Type 0
TakesScript None new = ⊤
TakesScript (Some bytes) new = new ≡ Some (drop (SCRIPT_LIMIT + 1) bytes)

-- a report was told whole
abbrev pub OnTold : {T : Type 0} → Result T ReplayFault → Type 0 → Type 0
OnTold (Ok x) P = P
OnTold (Err NoMemory) P = P
OnTold (Err fault) P = ⊤
