-- What the lines of a control ask for.
use Rattle.std.specs.Prelude.{ℕ, ◌≡◌, ◌≤◌, ◌<◌, ⊤, Bool, if◌then◌else◌, List, length}
use Rattle.std.specs.Prelude.{codes, Option, Some, None, IsSomeAnd, option_and_then}
use Rattle.std.specs.Option.{option_map, option_map_or}
use Rattle.std.specs.Str.{bytes_eq, is_utf8}
use Rattle.cbs_account.specs.Balance.{IsBandwidth}
use Rattle.filters.specs.OpsText.{ops_of}
use Rattle.filters.specs.declared.limits.TheConstants.{MOST_OPS}
use Rattle.serve_script.specs.ScriptText.{is_silent}
use Rattle.serve_script.specs.SessionWords.{behind_word, first_word, name_of}
use Rattle.serve_words.specs.StreamWords.{StreamAsked, stream_beside, stream_told}
use Rattle.serve_report.specs.declared.control.line.Ask.{Ask}
use Rattle.serve_report.specs.declared.control.line.Ask.TheVariants as asks
use Rattle.serve_report.specs.declared.control.line.LineFault.{LineFault}
use Rattle.serve_report.specs.declared.control.line.LineFault.TheVariants as faults

-- what a line asks for
pub data Asking : Type 0 where
  Nothing : Asking
  Serve : (stream : StreamAsked) → Asking
  Close : (name : List ℕ) → Asking
  State : Asking
  End : Asking
  Stop : Asking

abbrev pub ask_told : Ask → Asking
ask_told asks.Nothing = Nothing
ask_told (asks.Serve word) = Serve (stream_told word)
ask_told (asks.Close name) = Close name.now
ask_told asks.State = State
ask_told asks.End = End
ask_told asks.Stop = Stop

-- the name in a line `close NAME`, if it is one
abbrev pub name_to_close : List ℕ → Option (List ℕ)
name_to_close line =
    if bytes_eq (first_word line) (codes "close") then option_and_then name_of (behind_word line) else None

-- what a text asks for, if it does; where standard input is taken, no stream is read from it
abbrev pub text_asks : (is_input_taken : Bool) → List ℕ → Option Asking
text_asks is_input_taken text =
    if bytes_eq text (codes "state") then Some State
    else if bytes_eq text (codes "end") then Some End
    else if bytes_eq text (codes "stop") then Some Stop
    else option_map_or (λ name. Some (Close name)) (name_to_close text)
    (option_map Serve (stream_beside is_input_taken text))

-- the same of a line, whose bytes may be no text
abbrev pub line_asks : (is_input_taken : Bool) → List ℕ → Option Asking
line_asks is_input_taken line =
    if is_silent line then Some Nothing else if is_utf8 line then text_asks is_input_taken line else None

-- what is wrong with the operations of a stream, or else with its bandwidth
abbrev pub IsWrongBy : StreamAsked → LineFault → Type 0
IsWrongBy stream faults.BadOp = ops_of stream.operations ≡ None
IsWrongBy stream faults.TooManyOps = IsSomeAnd (ops_of stream.operations) (λ ops. MOST_OPS < length ops)
IsWrongBy stream faults.BadBandwidth =
    IsSomeAnd (ops_of stream.operations) (λ ops. length ops ≤ MOST_OPS) × ¬ IsBandwidth stream.q stream.t
IsWrongBy stream faults.NoMemory = ⊤
IsWrongBy stream fault = ⊥

-- the word that a fault is told by
abbrev pub fault_word : LineFault → List ℕ
fault_word faults.TooLong = codes "TooLong"
fault_word faults.BadLine = codes "BadLine"
fault_word faults.BadName = codes "BadName"
fault_word faults.BadFile = codes "BadFile"
fault_word faults.BadOp = codes "BadOp"
fault_word faults.TooManyOps = codes "TooManyOps"
fault_word faults.BadBandwidth = codes "BadBandwidth"
fault_word faults.NoStream = codes "NoStream"
fault_word faults.AlreadyClosed = codes "AlreadyClosed"
fault_word faults.Ended = codes "Ended"
fault_word faults.NoMemory = codes "NoMemory"
