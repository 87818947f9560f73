-- Streams that are admitted, and what those are told that aren't.
use Rattle.std.proofs.Common.{ℕ, ◌+◌, ◌≡◌, ◌≤◌, ◌<◌, inl, inr, Some, sym, ap, subst, arith}
use Rattle.cbs_account.specs.declared.limits.TheConstants.{MOST_STREAMS}
use Rattle.serve_core.specs.declared.refusal.Refusal as core
use Rattle.serve_core.specs.declared.refusal.Refusal.TheVariants as cores
use Rattle.serve_core.specs.Desk as desks
use Rattle.serve_core.specs.Schedule.{ScheduleValue}
use Rattle.serve_core.specs.Setup.{StreamSpec}
use Rattle.serve_hub.specs.declared.refusal.Refusal.{Refusal}
use Rattle.serve_hub.specs.declared.refusal.Refusal.TheVariants.{Core, HistoryFull, StrayLease, Torn}
use Rattle.serve_hub.specs.declared.limits.TheConstants.{MOST_SEATS}
use Rattle.serve_hub.specs.Answers.{IsAdmitAnswer, RefusesAdmission}
use Rattle.serve_hub.specs.Books.{BookValue, room}
use Rattle.serve_hub.specs.Calls.{AllowsAdmission}
use Rattle.serve_hub.specs.Ends.{IsOpening}
use Rattle.serve_hub.proofs.Histories.{few_here}

-- where the journal has places, the book refuses as its desk does
pub refused_so : (b : BookValue) (spec : StreamSpec) (e : core.Refusal) → 2 ≤ room b
    → desks.RefusesAdmission b.desk spec e → RefusesAdmission b spec (Core e)
refused_so b spec e has_room told =
    elim told [
      | inl answer ↦ inl answer
      | inr memory ↦ inr (ap Core memory.0, (memory.1, has_room))
    ]

pub answer_told : (b : BookValue) (spec : StreamSpec) (e : Refusal) → IsAdmitAnswer b spec (Some e)
    → AllowsAdmission spec e
answer_told b spec (Core cores.TooManyStreams) a = tt
answer_told b spec (Core cores.BadLimits) a = a.1
answer_told b spec (Core cores.BadBandwidth) a = (a.1, a.2)
answer_told b spec (Core cores.Overload) a = (a.1, a.2)
answer_told b spec (Core cores.NoMemory) a = absurd a
answer_told b spec (Core e) a = absurd a
answer_told b spec HistoryFull a = (a.0.limits, a.0.bandwidth)
answer_told b spec StrayLease a = absurd a
answer_told b spec (Torn c) a = absurd a

pub refusal_told : (b : BookValue) (spec : StreamSpec) (e : Refusal) → RefusesAdmission b spec e
    → AllowsAdmission spec e
refusal_told b spec e told =
    elim told [
      | inl answer ↦ answer_told b spec e answer
      | inr memory ↦ (
          let can = memory.1.0 in subst (AllowsAdmission spec) (sym memory.0) (can.limits, can.bandwidth))
    ]

-- where fewer streams have a seat than may be there, a part of the ledger is left
pub part_left : (opening of_book : ScheduleValue) (streams workers spare all : ℕ)
    → IsOpening opening of_book workers → streams < MOST_STREAMS → spare + streams + workers ≡ all → all ≡ MOST_SEATS → 1 ≤ spare
part_left opening of_book streams workers spare all o few parts enough =
    omega (arith, (few_here opening o.reached).1, o.each_worker, few, parts, enough)
