-- What the program keeps of a script, and what its private calls do.
use Rattle.std.specs.Prelude.{ℕ, ◌≡◌, List, ◌++◌, Option, Some, Result, Err, Bool}
use Rattle.std.specs.Io.KnownBytes.{Appends}
use Rattle.std.specs.Option.{option_map}
use Rattle.cbs_account.specs.Balance.{Balance, opened}
use Rattle.cbs_account.specs.Rules.{after_idle, after_units}
use Rattle.serve_script.specs.AccountScript.{server_after}
use Rattle.serve_script.specs.ScriptFault.{fault_told}
use Rattle.serve_script.specs.ScriptReplay.{answer_of}
use Rattle.serve_script.specs.ScriptReport.{Report, Stop, line_text, report_of, stop_text, text_of_lines}
use Rattle.serve_script.specs.ScriptState.{Given, Prints, ScriptState, Session}
use Rattle.serve_script.specs.ScriptState.{Fresh, OnAccount, InSetup, InSession}
use Rattle.serve_script.specs.declared.command.AccountCommand.{AccountCommand}
use Rattle.serve_script.specs.declared.command.AccountCommand.TheVariants.{Open, ArriveIdle, Charge}
use Rattle.serve_script.specs.declared.fault.ScriptStop.{ScriptStop}
use Rattle.serve_script.specs.declared.run.Script.{Script}
use Rattle.serve_script.specs.declared.run.Script.TheVariants as scripts
use Rattle.serve_script.specs.SessionInside.{IsAt}
use Rattle.serve_script.specs.Writing.{AppendsFront}
use Rattle.serve_script.specs.declared.fault.ReplayFault.{ReplayFault}
use Rattle.serve_script.specs.declared.fault.ReplayFault.TheVariants.{Write}

-- a stop of the program as reports have it
abbrev pub stop_told : ScriptStop → Stop
stop_told stop = record { line = stop.line; fault = fault_told stop.fault }

-- where a command that is done leaves the server
abbrev pub server_by : Option Balance → AccountCommand → Option Balance
server_by server (Open q t) = Some (opened q t)
server_by server (ArriveIdle moment) = option_map (after_idle moment) server
server_by server (Charge units) = option_map (after_units units) server

-- what the program keeps of a script's lines so far
abbrev pub Stands : Script → ScriptState → Type 0
Stands scripts.Fresh state = state ≡ Fresh
Stands (scripts.Account account) state =
    (past : List AccountCommand) × (state ≡ OnAccount past) × (server_after past ≡ Some account)
Stands (scripts.Preparation preparation) state = state ≡ InSetup preparation
Stands (scripts.Session kept) state = (session : Session) × (state ≡ InSession session) × IsAt kept session

-- a line that gives such a thing was answered so, the answer was printed, and this is kept of what it led to
pub record PrintsAnswer (Gives : Given → Type 0) (kept : Script) (before after : List ℕ) : Type 0 where
  pub answer : List ℕ
  pub next : ScriptState
  pub gives : Gives (Prints answer next)
  pub stands : Stands kept next
  pub printed : after ≡ before ++ line_text answer

-- a run has printed the answers of such a report, and this is its stop
pub record Reports (IsSuch : Report → Type 0) (stop : Option ScriptStop)
    (before after : List ℕ) : Type 0 where
  pub answers : List (List ℕ)
  pub printed : after ≡ before ++ text_of_lines answers
  pub report : IsSuch (report_of answers (option_map stop_told stop))

-- a report of this text and this stop was written, and the answer is the report's; or a front of it was
abbrev pub IsWritten :
    (old new : Option (List ℕ)) (printed : List ℕ) (stop : Option Stop) (answer : Result Bool ReplayFault)
    → Type 0
IsWritten old new printed stop (Err Write) = AppendsFront old new (printed ++ stop_text stop)
IsWritten old new printed stop answer =
    Appends old new (printed ++ stop_text stop) × (answer ≡ answer_of stop)
