use Rattle.std.specs.Prelude.{ℕ, ◌≤◌, nat_le, if◌then◌else◌, List, [], ◌∷◌, codes}
use Rattle.std.specs.Prelude.{Option, Some, None, option_and_then}
use Rattle.std.specs.Option.{option_map}
use Rattle.std.specs.Str.{bytes_eq}
use Rattle.cbs_account.specs.declared.limits.TheConstants.{LAST_MOMENT}
use Rattle.y4m_header.specs.Text.{number_of}
use Rattle.y4m_header.specs.declared.limits.TheConstants.{MOST_DIGITS}
use Rattle.serve_script.specs.ScriptText.{words}
use Rattle.serve_script.specs.declared.command.AccountCommand.{AccountCommand}
use Rattle.serve_script.specs.declared.command.AccountCommand.TheVariants.{Open, ArriveIdle, Charge}

-- the number that a word of digits writes
abbrev pub word_number : List ℕ → Option ℕ
word_number word = number_of MOST_DIGITS word

-- `idle`, at a moment up to the last one
abbrev pub idle_at : ℕ → Option AccountCommand
idle_at moment = if nat_le moment LAST_MOMENT then Some (ArriveIdle moment) else None

-- `idle R` and `charge K`
abbrev pub command_of_one : List ℕ → List ℕ → Option AccountCommand
command_of_one name value =
    if bytes_eq name (codes "idle") then option_and_then idle_at (word_number value)
    else if bytes_eq name (codes "charge") then option_map (λ units. Charge units) (word_number value)
    else None

-- `account Q T`
abbrev pub command_of_two : List ℕ → List ℕ → List ℕ → Option AccountCommand
command_of_two name q t =
    if bytes_eq name (codes "account")
    then option_and_then
    (λ maximum. option_map (λ period. Open maximum period) (word_number t)) (word_number q)
    else None

-- the command that these words write, if they are of its form
abbrev pub command_of_words : List (List ℕ) → Option AccountCommand
command_of_words (name ∷ value ∷ []) = command_of_one name value
command_of_words (name ∷ q ∷ t ∷ []) = command_of_two name q t
command_of_words _ = None

-- the command of an account script that a line writes, if it is one
abbrev pub command_of : List ℕ → Option AccountCommand
command_of line = command_of_words (words line)

-- what a clock of an account can show
abbrev pub IsOnClock : AccountCommand → Type 0
IsOnClock (ArriveIdle moment) = moment ≤ LAST_MOMENT
IsOnClock _ = Unit {0}
