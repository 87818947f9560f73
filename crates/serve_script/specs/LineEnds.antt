-- How the line of a command ends.
use Rattle.std.specs.Prelude.{ℕ, ◌≡◌, List, Option, Result, Ok, Err, MatchOption}
use Rattle.cbs_account.specs.Balance.{Balance}
use Rattle.serve_script.specs.AccountScript.{server_after}
use Rattle.serve_script.specs.ScriptFault as faults
use Rattle.serve_script.specs.ScriptFault.{fault_told}
use Rattle.serve_script.specs.ScriptInside.{PrintsAnswer}
use Rattle.serve_script.specs.ScriptState.{Given, Faults, MayFault, Session}
use Rattle.serve_script.specs.SessionCommand.{run_of}
use Rattle.serve_script.specs.SessionRun.{RunGives}
use Rattle.serve_script.specs.declared.command.AccountCommand.{AccountCommand}
use Rattle.serve_script.specs.declared.fault.ScriptFault.{ScriptFault}
use Rattle.serve_script.specs.declared.run.Script.{Script}

-- how a line ends that gives such a thing: it was answered, or it has such a fault and nothing was printed
abbrev pub Ends : (Given → Type 0) → Result Script ScriptFault → (before after : List ℕ) → Type 0
Ends Gives (Ok kept) before after = PrintsAnswer Gives kept before after
Ends Gives (Err fault) before after = MayFault Gives (fault_told fault) × (after ≡ before)

-- how a line ends that gives such a thing from wherever the lines before it may have led
abbrev pub EndsFrom : {S : Type 0} → (S → Type 0) → (S → Given → Type 0) → Result Script ScriptFault
    → (before after : List ℕ) → Type 0
EndsFrom {S} Is Gives (Ok kept) before after =
    (from : S) → Is from → PrintsAnswer (Gives from) kept before after
EndsFrom {S} Is Gives (Err fault) before after =
    ((from : S) → Is from → MayFault (Gives from) (fault_told fault)) × (after ≡ before)

-- after this past of commands the server stands so, or none was opened
abbrev pub IsPastOf : Option Balance → List AccountCommand → Type 0
IsPastOf server past = server_after past ≡ server

-- what the line of a command gives after `start`
abbrev pub RunLineGives : List ℕ → Session → Given → Type 0
RunLineGives line session given =
    MatchOption (run_of line) (given ≡ Faults faults.BadLine) (λ form. RunGives session form given)
