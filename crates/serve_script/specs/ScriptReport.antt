-- What a script prints.
use Rattle.std.specs.Prelude.{ℕ, ◌≡◌, ◌+◌, ◌≤◌, ◌<◌, ◌⊎◌, Bool, List, [], ◌∷◌, ◌++◌, length, take}
use Rattle.std.specs.Prelude.{codes, decimal, slice_get, Option, Some, None, IsSomeAnd, MatchBool}
use Rattle.std.specs.Prelude.{MatchOption}
use Rattle.std.specs.List.{flat_map}
use Rattle.std.specs.Str.{bytes_eq}
use Rattle.serve_script.specs.AccountScript.{AccountGives}
use Rattle.serve_script.specs.ScriptFault as faults
use Rattle.serve_script.specs.ScriptFault.{Fault, fault_text}
use Rattle.serve_script.specs.ScriptState.{Given, Silent, Prints, Faults, MayFault, unprepared}
use Rattle.serve_script.specs.ScriptState.{ScriptState, Fresh, OnAccount, InSetup, InSession, Preparation}
use Rattle.serve_script.specs.ScriptText.{script_lines, is_silent}
use Rattle.serve_script.specs.SessionCommand.{run_of, setup_of}
use Rattle.serve_script.specs.SessionRun.{RunGives}
use Rattle.serve_script.specs.SessionSetup.{SetupGives}
use Rattle.serve_script.specs.SessionWords.{first_word}
use Rattle.serve_script.specs.declared.TheConstants.{SCRIPT_LIMIT}

-- the first command decides what a script is: `account` begins an account script
abbrev pub begins_account : List ℕ → Bool
begins_account line = bytes_eq (first_word line) (codes "account")

abbrev pub SetupLineGives : Preparation → List ℕ → Given → Type 0
SetupLineGives p line given =
    MatchOption (setup_of line) (given ≡ Faults faults.BadLine) (λ form. SetupGives p form given)

-- what the line of a command gives where the lines before it led here
abbrev pub CommandGives : ScriptState → List ℕ → Given → Type 0
CommandGives Fresh line given =
    MatchBool (begins_account line) (AccountGives line [] given) (SetupLineGives unprepared line given)
CommandGives (OnAccount past) line given = AccountGives line past given
CommandGives (InSetup preparation) line given = SetupLineGives preparation line given
CommandGives (InSession session) line given =
    MatchOption (run_of line) (given ≡ Faults faults.BadLine) (λ form. RunGives session form given)

-- what a line gives, want of memory aside
abbrev pub Gives : ScriptState → List ℕ → Given → Type 0
Gives state line given = MatchBool (is_silent line) (given ≡ Silent) (CommandGives state line given)

-- what lines without a fault print: in order, each from where the one before it led
abbrev pub printed_by : Given → ScriptState → List (List ℕ) → (ScriptState → List (List ℕ) → Type 0) → Type 0
printed_by Silent state answers rest = rest state answers
printed_by (Prints answer next) state answers rest =
    (more : List (List ℕ)) × (answers ≡ answer ∷ more) × rest next more
printed_by (Faults fault) state answers rest = ⊥

-- these lines lead from one state to another, none has a fault, and these are their answers
abbrev pub LeadTo : ScriptState → List (List ℕ) → List (List ℕ) → ScriptState → Type 0
LeadTo state [] answers end = (answers ≡ []) × (state ≡ end)
LeadTo state (line ∷ lines) answers end =
    (given : Given) × Gives state line given
    × printed_by given state answers (λ next more. LeadTo next lines more end)

-- where a script stops: the number of the line, from 1, or 0 for the script as a whole
pub record Stop : Type 0 where
  pub line : ℕ
  pub fault : Fault

-- what a script prints: the answers of the commands that were run, and then where it stops, if it does
pub record Report : Type 0 where
  pub answers : List (List ℕ)
  pub stop : Option Stop

abbrev pub report_of : List (List ℕ) → Option Stop → Report
report_of answers stop = record { answers = answers; stop = stop }

-- a stop for the script as a whole: nothing was run
abbrev pub stopped_whole : Fault → Report
stopped_whole fault = report_of [] (Some (record { line = 0; fault = fault }))

-- all lines are run, or those before the first fault, or before the first want of memory
pub record IsOfLines (lines : List (List ℕ)) (report : Report) : Type 0 where
  pub count : ℕ
  pub state : ScriptState
  pub ran : LeadTo Fresh (take count lines) report.answers state
  pub stop : MatchOption report.stop (count ≡ length lines) (λ stop.
      (stop.line ≡ count + 1)
      × IsSomeAnd (slice_get lines count) (λ line. MayFault (Gives state line) stop.fault))

-- the report of a script that could be kept: one longer than the limit isn't run
abbrev pub IsKeptReport : List ℕ → Report → Type 0
IsKeptReport script report =
    ((length script ≤ SCRIPT_LIMIT) × IsOfLines (script_lines script) report)
    ⊎ ((SCRIPT_LIMIT < length script) × (report ≡ stopped_whole faults.TooLong))

-- a report that a script may have: its own, or there is no memory to keep the script
abbrev pub IsReport : List ℕ → Report → Type 0
IsReport script report =
    IsKeptReport script report ⊎ ((0 < length script) × (report ≡ stopped_whole faults.NoMemory))

-- a line as it is written
abbrev pub line_text : List ℕ → List ℕ
line_text line = line ++ 10 ∷ []

abbrev pub text_of_lines : List (List ℕ) → List ℕ
text_of_lines lines = flat_map line_text lines

-- `line N: WORD`
abbrev pub stop_line : Stop → List ℕ
stop_line stop = codes "line " ++ decimal stop.line ++ codes ": " ++ fault_text stop.fault

-- the line of a stop, if there is one
abbrev pub stop_text : Option Stop → List ℕ
stop_text None = []
stop_text (Some stop) = line_text (stop_line stop)

-- what is written for a script
abbrev pub report_text : Report → List ℕ
report_text report = text_of_lines report.answers ++ stop_text report.stop
