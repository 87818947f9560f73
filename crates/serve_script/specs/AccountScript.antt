-- What the lines of an account script give.
use Rattle.std.specs.Prelude.{ℕ, ◌≡◌, ◌⊎◌, ⊤, Option, Some, None, MatchOption}
use Rattle.std.specs.Prelude.{List, [], ◌∷◌, ◌++◌, replicate, codes, decimal}
use Rattle.std.specs.Option.{option_map, option_map_or}
use Rattle.cbs_account.specs.Balance.{Balance, IsBandwidth}
use Rattle.cbs_account.specs.Rules.{OwnEvent, UnitOfWork, Idle, CanCharge, cbs}
use Rattle.serve_script.specs.ScriptCommand.{command_of}
use Rattle.serve_script.specs.ScriptFault as faults
use Rattle.serve_script.specs.ScriptFault.{Fault}
use Rattle.serve_script.specs.ScriptState.{Given, Prints, Faults, OnAccount}
use Rattle.serve_script.specs.declared.command.AccountCommand.{AccountCommand}
use Rattle.serve_script.specs.declared.command.AccountCommand.TheVariants.{Open, ArriveIdle, Charge}

-- the own events of the server since the last `account` of a past of commands; both have the latest first
abbrev pub own_events : List AccountCommand → List OwnEvent
own_events [] = []
own_events (Open q t ∷ past) = []
own_events (ArriveIdle moment ∷ past) = Idle moment ∷ own_events past
own_events (Charge units ∷ past) = replicate units UnitOfWork ++ own_events past

-- the maximum budget and the period of the last `account`
abbrev pub last_bandwidth : List AccountCommand → Option (ℕ × ℕ)
last_bandwidth [] = None
last_bandwidth (Open q t ∷ past) = Some (q, t)
last_bandwidth (ArriveIdle moment ∷ past) = last_bandwidth past
last_bandwidth (Charge units ∷ past) = last_bandwidth past

-- where the server stands after a past of commands: the rules, over its own events
abbrev pub server_after : List AccountCommand → Option Balance
server_after past = option_map (λ last. cbs last.0 last.1 (own_events past)) (last_bandwidth past)

-- a command can be done where the server stands here, or none was opened
abbrev pub CanDo : Option Balance → AccountCommand → Type 0
CanDo _ (Open q t) = IsBandwidth q t
CanDo None _ = ⊥
CanDo (Some server) (ArriveIdle moment) = ⊤
CanDo (Some server) (Charge units) = CanCharge units server

-- the fault of one that can't
abbrev pub fault_of : Option Balance → AccountCommand → Fault
fault_of _ (Open q t) = faults.BadBandwidth
fault_of None _ = faults.BadLine
fault_of (Some server) _ = faults.Range

-- `budget C deadline D`
abbrev pub balance_text : ℕ × ℕ → List ℕ
balance_text balance = codes "budget " ++ decimal balance.0 ++ codes " deadline " ++ decimal balance.1

abbrev pub balance_line : Balance → List ℕ
balance_line server = balance_text (server.budget, server.deadline)

-- what a past of commands prints last
abbrev pub account_answer : List AccountCommand → List ℕ
account_answer past = option_map_or balance_line (server_after past) []

-- a command that can be done is done, any other has its fault
abbrev pub DoneOr : List AccountCommand → AccountCommand → Given → Type 0
DoneOr past command given =
    (CanDo (server_after past) command
    × (given ≡ Prints (account_answer (command ∷ past)) (OnAccount (command ∷ past))))
    ⊎ ((¬ CanDo (server_after past) command) × (given ≡ Faults (fault_of (server_after past) command)))

-- what a line gives after a past of commands
abbrev pub AccountGives : List ℕ → List AccountCommand → Given → Type 0
AccountGives line past given =
    MatchOption (command_of line) (given ≡ Faults faults.BadLine) (λ command. DoneOr past command given)
