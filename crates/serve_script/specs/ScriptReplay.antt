-- What a replay writes, and what it answers.
use Rattle.std.specs.Prelude.{ℕ, ◌≡◌, Bool, true, false, List, Option, Some, None, Result, Ok, Err}
use Rattle.std.specs.Io.KnownBytes.{Appends, Keeps}
use Rattle.serve_script.specs.ScriptFault as faults
use Rattle.serve_script.specs.ScriptFault.{Fault}
use Rattle.serve_script.specs.ScriptReport.{IsReport, Report, Stop, report_text}
use Rattle.serve_script.specs.Writing.{AppendsFront}
use Rattle.serve_script.specs.declared.fault.ReplayFault.{ReplayFault}
use Rattle.serve_script.specs.declared.fault.ReplayFault.TheVariants.{Read, Write, NoMemory}

-- what a replay answers once its report is written: whether that has no stop, or want of memory as its own
-- fault
abbrev pub answer_at : Fault → Result Bool ReplayFault
answer_at faults.NoMemory = Err NoMemory
answer_at _ = Ok false

abbrev pub answer_of : Option Stop → Result Bool ReplayFault
answer_of None = Ok true
answer_of (Some stop) = answer_at stop.fault

-- a report of the script was written whole, and the answer is the report's
abbrev pub IsTold : List ℕ → Option (List ℕ) → Option (List ℕ) → Result Bool ReplayFault → Type 0
IsTold script old new answer =
    (report : Report) × IsReport script report × Appends old new (report_text report)
    × (answer ≡ answer_of report.stop)

-- what a replay of this script, which answers this, has written: nothing, the front of a report, or a report
abbrev pub IsReplay : List ℕ → Option (List ℕ) → Option (List ℕ) → Result Bool ReplayFault → Type 0
IsReplay script old new (Err Read) = Keeps old new
IsReplay script old new (Err Write) =
    (report : Report) × IsReport script report × AppendsFront old new (report_text report)
IsReplay script old new answer = IsTold script old new answer
