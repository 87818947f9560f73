-- Moments that a clock gives, where a door knows of them.
use Rattle.std.proofs.Common.{ℕ, ◌≡◌, ◌<◌, List, [], ◌∷◌, Option, IfSome, Some, None, arith}
use Rattle.cbs_account.specs.declared.limits.TheConstants.{LAST_MOMENT}
use Rattle.serve_core.specs.Bare.{Blank}
use Rattle.serve_core.specs.Setup.{StreamSpec}
use Rattle.serve_core.specs.States.{State}
use Rattle.serve_hub.specs.declared.entry.Act.{Act}
use Rattle.serve_hub.specs.declared.entry.Act.TheVariants.{Offered}
use Rattle.serve_hub.specs.declared.entry.Entry.{Entry}
use Rattle.serve_hub.specs.Journal.{clock_in}
use Rattle.serve_client.specs.declared.stop.Cause.TheVariants.{TooManyFrames, ClockEnd, NoMemory}
use Rattle.serve_client.specs.declared.stop.Stop.{Stop}
use Rattle.serve_client.specs.declared.stop.Stop.TheVariants.{Whole, Read, Write, Refused, Torn}
use Rattle.serve_client.specs.Clients.{AllowsStop, AreAtMoments, IsAtMoment, offers_in}
use Rattle.serve_client.specs.ClientInside.{KeepsAllowed}
use Rattle.serve_work.specs.Entries.{AreTimed}

-- calls that offer no frame are at any moments
pub no_offer : (Gives : ℕ → Type 0) (acts : List Act) → offers_in acts ≡ 0 → AreAtMoments Gives acts
no_offer Gives [] none = tt
no_offer Gives (Offered tick number ∷ acts) none = absurd (omega (arith, none))
no_offer Gives (act ∷ acts) none = ((0, tt), no_offer Gives acts none)

module _ (Gives times : ℕ → Type 0) (given : (at : ℕ) → Gives at → times at) where
  moment_too : (clock : ℕ) (act : Act) → IsAtMoment Gives clock act → IsAtMoment times clock act
  moment_too clock (Offered tick number) p = (p.0, given p.0 p.1, p.2)
  moment_too clock act p = tt

  pub timed_too : (s : ℕ) (specs : List StreamSpec) (opening : State Blank) (past : List Entry)
      → AreTimed Gives s specs opening past → AreTimed times s specs opening past
  timed_too s specs opening [] p = tt
  timed_too s specs opening (e ∷ past) p =
      (timed_too s specs opening past p.0, λ is. moment_too (clock_in specs opening past) e.act (p.1 is))

  abbrev IsPastEnd : Type 0
  IsPastEnd = (at : ℕ) × (LAST_MOMENT < at) × times at

  end_allowed : (stop : Stop) → IsPastEnd → AllowsStop times stop
  end_allowed Whole p = tt
  end_allowed (Read fault) p = tt
  end_allowed (Write fault) p = tt
  end_allowed (Refused TooManyFrames) p = tt
  end_allowed (Refused ClockEnd) p = p
  end_allowed (Refused NoMemory) p = tt
  end_allowed Torn p = tt

  stop_too : (stop : Stop) → AllowsStop Gives stop → AllowsStop times stop
  stop_too Whole p = tt
  stop_too (Read fault) p = tt
  stop_too (Write fault) p = tt
  stop_too (Refused TooManyFrames) p = tt
  stop_too (Refused ClockEnd) p = (p.0, p.1, given p.0 p.2)
  stop_too (Refused NoMemory) p = tt
  stop_too Torn p = tt

  some_end : (stop : Option Stop) → IsPastEnd → IfSome stop (AllowsStop times)
  some_end None p = tt
  some_end (Some stop) p = end_allowed stop p

  some_too : (stop : Option Stop) → IfSome stop (AllowsStop Gives) → IfSome stop (AllowsStop times)
  some_too None p = tt
  some_too (Some stop) p = stop_too stop p

  pub allowed_too : (old new : Option Stop) → KeepsAllowed Gives old new → IfSome old (AllowsStop times)
      → IfSome new (AllowsStop times)
  allowed_too None new keeps was = some_too new (keeps tt)
  allowed_too (Some Whole) new keeps was = some_too new (keeps tt)
  allowed_too (Some (Read fault)) new keeps was = some_too new (keeps tt)
  allowed_too (Some (Write fault)) new keeps was = some_too new (keeps tt)
  allowed_too (Some (Refused TooManyFrames)) new keeps was = some_too new (keeps tt)
  allowed_too (Some (Refused ClockEnd)) new keeps was = some_end new was
  allowed_too (Some (Refused NoMemory)) new keeps was = some_too new (keeps tt)
  allowed_too (Some Torn) new keeps was = some_too new (keeps tt)
