-- What the line of an account script gives, by what its command does.
use Rattle.std.proofs.Common.{◌≡◌, inl, inr, ℕ, List, [], ◌∷◌, ◌++◌, replicate, zero, suc, Option, None, Some}
use Rattle.std.proofs.Common.{MatchOption, refl, sym, ap, subst, ◌∙◌}
use Rattle.std.specs.Option.{option_map, option_map_or}
use Rattle.cbs_account.specs.Balance.{Balance, opened}
use Rattle.cbs_account.specs.Rules.{OwnEvent, UnitOfWork, Idle, after_all, after_idle, after_unit, after_units, cbs}
use Rattle.serve_script.specs.AccountScript.{AccountGives, CanDo, DoneOr, balance_line, fault_of, last_bandwidth, own_events, server_after}
use Rattle.serve_script.specs.ScriptCommand.{command_of}
use Rattle.serve_script.specs.ScriptFault as faults
use Rattle.serve_script.specs.ScriptInside.{server_by}
use Rattle.serve_script.specs.ScriptState.{Given, Prints, Faults, MayFault, OnAccount, TakesMemory}
use Rattle.serve_script.specs.declared.command.AccountCommand.{AccountCommand}
use Rattle.serve_script.specs.declared.command.AccountCommand.TheVariants.{Open, ArriveIdle, Charge}

-- units after other events
after_all-replicate : (server : Balance) (units : ℕ) (past : List OwnEvent)
    → after_all server (replicate units UnitOfWork ++ past) ≡ after_units units (after_all server past)
after_all-replicate server zero past = refl
after_all-replicate server (suc units) past = ap after_unit (after_all-replicate server units past)

abbrev server_of : Option (ℕ × ℕ) → List OwnEvent → Option Balance
server_of bandwidth events = option_map (λ last. cbs last.0 last.1 events) bandwidth

idle_later : (bandwidth : Option (ℕ × ℕ)) (moment : ℕ) (events : List OwnEvent)
    → server_of bandwidth (Idle moment ∷ events) ≡ option_map (after_idle moment) (server_of bandwidth events)
idle_later None moment events = refl
idle_later (Some last) moment events = refl

units_later : (bandwidth : Option (ℕ × ℕ)) (units : ℕ) (events : List OwnEvent)
    → server_of bandwidth (replicate units UnitOfWork ++ events) ≡ option_map (after_units units) (server_of bandwidth events)
units_later None units events = refl
units_later (Some last) units events = ap Some (after_all-replicate (opened last.0 last.1) units events)

-- where a command leaves the server
server_next : (past : List AccountCommand) (command : AccountCommand)
    → server_after (command ∷ past) ≡ server_by (server_after past) command
server_next past (Open q t) = refl
server_next past (ArriveIdle moment) = idle_later (last_bandwidth past) moment (own_events past)
server_next past (Charge units) = units_later (last_bandwidth past) units (own_events past)

-- a fault of a command is no want of memory
own_fault : (Gives : Given → Type 0) (server : Option Balance) (command : AccountCommand) → Gives (Faults (fault_of server command))
    → MayFault Gives (fault_of server command)
own_fault Gives server (Open q t) gives = gives
own_fault Gives None (ArriveIdle moment) gives = gives
own_fault Gives None (Charge units) gives = gives
own_fault Gives (Some server) (ArriveIdle moment) gives = gives
own_fault Gives (Some server) (Charge units) gives = gives

-- a command that can be done takes memory
done_takes : (past : List AccountCommand) (command : AccountCommand) (given : Given) → CanDo (server_after past) command
    → DoneOr past command given
    → TakesMemory given
done_takes past command given can (inl (same, is)) = subst TakesMemory (sym is) tt
done_takes past command given can (inr (cannot, is)) = absurd (cannot can)

module _ (line : List ℕ) (past : List AccountCommand) where
  abbrev FoundGives : Option AccountCommand → Given → Type 0
  FoundGives found given = MatchOption found (given ≡ Faults faults.BadLine) (λ command. DoneOr past command given)

  -- a line that writes no command
  pub account_bad : command_of line ≡ None → MayFault (AccountGives line past) faults.BadLine
  account_bad none = subst (λ found. FoundGives found (Faults faults.BadLine)) (sym none) refl

  module _ (command : AccountCommand) (server : Option Balance) where
    -- one whose command can't be done
    pub account_faults : command_of line ≡ Some command → server_after past ≡ server → ¬ CanDo server command
        → MayFault (AccountGives line past) (fault_of server command)
    account_faults is there cannot =
        let here : ¬ CanDo (server_after past) command = subst (λ (s : Option Balance). ¬ CanDo s command) (sym there) cannot in
        let same : Faults (fault_of server command) ≡ Faults (fault_of (server_after past) command) =
        ap (λ (s : Option Balance). Faults (fault_of s command)) (sym there) in
        own_fault (AccountGives line past) server command
        (subst (λ found. FoundGives found (Faults (fault_of server command))) (sym is) (inr (here, same)))

    -- one whose command can, without memory for the answer
    pub account_lacks : command_of line ≡ Some command → server_after past ≡ server → CanDo server command
        → MayFault (AccountGives line past) faults.NoMemory
    account_lacks is there can = λ given gives.
        done_takes past command given (subst (λ (s : Option Balance). CanDo s command) (sym there) can)
        (subst (λ found. FoundGives found given) is gives)

    -- where it leaves the server
    pub server_left : (next : Balance) → server_after past ≡ server → server_by server command ≡ Some next
        → server_after (command ∷ past) ≡ Some next
    server_left next there left = server_next past command ∙ ap (λ (s : Option Balance). server_by s command) there ∙ left

    -- or with it
    pub account_prints : (next : Balance) → command_of line ≡ Some command → server_after past ≡ server → CanDo server command
        → server_by server command ≡ Some next → AccountGives line past (Prints (balance_line next) (OnAccount (command ∷ past)))
    account_prints next is there can left =
        let later = server_left next there left in
        let prints = ap (λ (s : Option Balance). Prints (option_map_or balance_line s []) (OnAccount (command ∷ past))) (sym later) in
        subst (λ found. FoundGives found (Prints (balance_line next) (OnAccount (command ∷ past)))) (sym is)
        (inl (subst (λ (s : Option Balance). CanDo s command) (sym there) can, prints))
