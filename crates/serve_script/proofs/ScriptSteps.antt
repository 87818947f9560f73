-- How the line of a command ends, by what the program keeps of a script.
use Rattle.std.proofs.Common.{◌≡◌, ℕ, Bool, true, false, List, [], ◌∷◌, ◌++◌, Option, None, Some, Result, Ok}
use Rattle.std.proofs.Common.{Err, IsErrAnd, refl, sym, subst, MatchBool, MatchOption}
use Rattle.std.specs.Option.{ok_or}
use Rattle.cbs_account.specs.Balance.{Balance}
use Rattle.serve_script.specs.AccountScript.{AccountGives, CanDo, balance_line}
use Rattle.serve_script.specs.ScriptCommand.{command_of}
use Rattle.serve_script.specs.ScriptFault as faults
use Rattle.serve_script.specs.ScriptFault.{Fault, fault_told}
use Rattle.serve_script.specs.LineEnds.{Ends, EndsFrom, IsPastOf, RunLineGives}
use Rattle.serve_script.specs.ScriptInside.{PrintsAnswer, Stands, server_by}
use Rattle.serve_script.specs.ScriptReport.{CommandGives, SetupLineGives, begins_account, line_text}
use Rattle.serve_script.specs.ScriptState.{Given, Prints, Faults, Fresh, InSession, MayFault, OnAccount}
use Rattle.serve_script.specs.ScriptState.{Preparation, ScriptState, Session, unprepared}
use Rattle.serve_script.specs.SessionCommand.{RunForm, run_of}
use Rattle.serve_script.specs.SessionInside.{AnswersIn, IsAt, SessionValue}
use Rattle.serve_script.specs.SessionRun.{RunGives}
use Rattle.serve_script.specs.declared.fault.ScriptFault.{ScriptFault}
use Rattle.serve_script.specs.declared.fault.ScriptFault.TheVariants as script_faults
use Rattle.serve_script.specs.declared.run.Script.{Script}
use Rattle.serve_script.specs.declared.run.Script.TheVariants as scripts
use Rattle.serve_script.specs.declared.command.AccountCommand.{AccountCommand}
use Rattle.serve_script.proofs.AccountLines.{account_prints, server_left}

-- a line that writes no command
pub no_command : {F : Type 0} (found : Option F) (error : ScriptFault) → Err error ≡ ok_or found script_faults.BadLine
    → (found ≡ None) × (error ≡ script_faults.BadLine)
no_command None error e = (refl, cc)
no_command (Some form) error e = absurd cc

-- a fault that is passed on ends a line where nothing was printed
pub ends_faulty : (Gives : Given → Type 0) (r : Result Script ScriptFault) (before after : List ℕ) {P : ScriptFault → Type 0} → IsErrAnd r P
    → ((fault : ScriptFault) → P fault → MayFault Gives (fault_told fault)) → after ≡ before → Ends Gives r before after
ends_faulty Gives (Ok kept) before after h may same = absurd h
ends_faulty Gives (Err fault) before after h may same = (may fault h, same)

pub from_faulty : {S : Type 0} (Is : S → Type 0) (Gives : S → Given
    → Type 0) (r : Result Script ScriptFault) (before after : List ℕ) {P : ScriptFault → Type 0}
    → IsErrAnd r P → ((fault : ScriptFault) → P fault → (from : S) → Is from → MayFault (Gives from) (fault_told fault)) → after ≡ before
    → EndsFrom Is Gives r before after
from_faulty Is Gives (Ok kept) before after h may same = absurd h
from_faulty Is Gives (Err fault) before after h may same = (may fault h, same)

-- the line of an account script is answered
pub account_answered : (account : Option Balance) (line : List ℕ) (command : AccountCommand) (next : Balance) (before after : List ℕ)
    → command_of line ≡ Some command → CanDo account command → server_by account command ≡ Some next
    → after ≡ before ++ line_text (balance_line next)
    → (past : List AccountCommand) → IsPastOf account past → PrintsAnswer (AccountGives line past) (scripts.Account next) before after
account_answered account line command next before after is can left printed past there = record {
  answer = balance_line next;
  next = OnAccount (command ∷ past);
  gives = account_prints line past command account next is there can left;
  stands = (command ∷ past, refl, server_left line past command account next there left);
  printed = printed;
}

-- what the first command gives, where it opens an account or not
abbrev FirstGives : List ℕ → Bool → Given → Type 0
FirstGives line is_account given = MatchBool is_account (AccountGives line [] given) (SetupLineGives unprepared line given)

module _ (line before after : List ℕ) where
  -- what holds of the first command's line holds where no line was one
  first : (Holds : (Given → Type 0) → Type 0) (is_account : Bool) (state : ScriptState) → state ≡ Fresh → begins_account line ≡ is_account
      → Holds (FirstGives line is_account) → Holds (CommandGives state line)
  first Holds is_account state fresh is holds =
      subst (λ (at : ScriptState). Holds (CommandGives at line)) (sym fresh)
      (subst (λ (opens : Bool). Holds (FirstGives line opens)) (sym is) holds)

  -- the first command opens an account
  pub first_ends : (r : Result Script ScriptFault) → begins_account line ≡ true
      → EndsFrom (IsPastOf None) (AccountGives line) r before after
      → EndsFrom (Stands scripts.Fresh) (λ state. CommandGives state line) r before after
  first_ends (Ok kept) opens h = λ state fresh. first (λ Gives. PrintsAnswer Gives kept before after) true state fresh opens (h [] refl)
  first_ends (Err fault) opens h =
      (λ state fresh. first (λ Gives. MayFault Gives (fault_told fault)) true state fresh opens (h.0 [] refl), h.1)

  -- or sets up the first thing of a session
  pub unprepared_ends : (r : Result Script ScriptFault) → begins_account line ≡ false → Ends (SetupLineGives unprepared line) r before after
      → EndsFrom (Stands scripts.Fresh) (λ state. CommandGives state line) r before after
  unprepared_ends (Ok kept) none h = λ state fresh. first (λ Gives. PrintsAnswer Gives kept before after) false state fresh none h
  unprepared_ends (Err fault) none h = (λ state fresh. first (λ Gives. MayFault Gives (fault_told fault)) false state fresh none h.0, h.1)

  -- a line of an account script
  pub account_ends : (account : Balance) (r : Result Script ScriptFault)
      → EndsFrom (IsPastOf (Some account)) (AccountGives line) r before after
      → EndsFrom (Stands (scripts.Account account)) (λ state. CommandGives state line) r before after
  account_ends account (Ok kept) h = λ state (past, at, there).
      subst (λ (from : ScriptState). PrintsAnswer (CommandGives from line) kept before after) (sym at) (h past there)
  account_ends account (Err fault) h = (
    λ state (past, at, there).
        subst (λ (from : ScriptState). MayFault (CommandGives from line) (fault_told fault)) (sym at) (h.0 past there),
    h.1,
  )

  -- a line before `start`
  pub prepared_ends : (p : Preparation) (r : Result Script ScriptFault) → Ends (SetupLineGives p line) r before after
      → EndsFrom (Stands (scripts.Preparation p)) (λ state. CommandGives state line) r before after
  prepared_ends p (Ok kept) h =
      λ state at. subst (λ (from : ScriptState). PrintsAnswer (CommandGives from line) kept before after) (sym at) h
  prepared_ends p (Err fault) h =
      (λ state at. subst (λ (from : ScriptState). MayFault (CommandGives from line) (fault_told fault)) (sym at) h.0, h.1)

  -- a line behind it
  pub begun_ends : (kept : SessionValue) (r : Result Script ScriptFault) → EndsFrom (IsAt kept) (RunLineGives line) r before after
      → EndsFrom (Stands (scripts.Session kept)) (λ state. CommandGives state line) r before after
  begun_ends kept (Ok next) h = λ state (session, at, here).
      subst (λ (from : ScriptState). PrintsAnswer (CommandGives from line) next before after) (sym at) (h session here)
  begun_ends kept (Err fault) h = (
    λ state (session, at, here).
        subst (λ (from : ScriptState). MayFault (CommandGives from line) (fault_told fault)) (sym at) (h.0 session here),
    h.1,
  )

-- what a line gives in a session, where it writes a command or not
abbrev FormGives : Session → Option RunForm → Given → Type 0
FormGives session form given = MatchOption form (given ≡ Faults faults.BadLine) (λ is. RunGives session is given)

pub run_bad : (session : Session) (line : List ℕ) → run_of line ≡ None → MayFault (RunLineGives line session) faults.BadLine
run_bad session line none = subst (λ (found : Option RunForm). FormGives session found (Faults faults.BadLine)) (sym none) refl

pub run_may_fault : (session : Session) (line : List ℕ) (form : RunForm) (fault : Fault) → run_of line ≡ Some form
    → MayFault (RunGives session form) fault → MayFault (RunLineGives line session) fault
run_may_fault session line form fault is may = subst (λ (found : Option RunForm). MayFault (FormGives session found) fault) (sym is) may

pub run_answers : (session : Session) (next : SessionValue) (line : List ℕ) (form : RunForm) (before after : List ℕ)
    → run_of line ≡ Some form
    → AnswersIn (RunGives session form) next before after → PrintsAnswer (RunLineGives line session) (scripts.Session next) before after
run_answers session next line form before after is answers = record {
  answer = answers.answer;
  next = InSession answers.next;
  gives =
      subst (λ (found : Option RunForm). FormGives session found (Prints answers.answer (InSession answers.next))) (sym is) answers.gives;
  stands = (answers.next, refl, answers.stands);
  printed = answers.printed;
}
