-- What follows for the epochs of a session whose streams come and go.
use Rattle.std.proofs.Common.{ℕ, ◌*◌, ◌≡◌, ◌≤◌, ◌⊎◌, ◌∙◌, ◌++◌, List, [], ◌∷◌, Option, None, inl, inr, length}
use Rattle.std.proofs.Common.{replicate, slice_get, ap, refl, sym, subst}
use Rattle.std.proofs.lemmas.List.{length-replicate}
use Rattle.serve_core.specs.declared.held.Held.{Held}
use Rattle.serve_core.specs.Bare.{Blank, measures_any, is_any_image}
use Rattle.serve_core.specs.Counts.{held}
use Rattle.serve_core.specs.Desk.{desk_state}
use Rattle.serve_core.specs.Events as events
use Rattle.serve_core.specs.Events.{Start, Then, Transcript, joined}
use Rattle.serve_core.specs.Laws.{WholeDemandLaw, demand}
use Rattle.serve_core.specs.Leads.{IsLegalFrom, Leads, state_from}
use Rattle.serve_core.specs.Reached.{IsReached}
use Rattle.serve_core.specs.Retired.{retired_schedule}
use Rattle.serve_core.specs.Rules.{AllowsLease}
use Rattle.serve_core.specs.Schedule.{ScheduleValue}
use Rattle.serve_core.specs.Setup.{Setup, StreamSpec}
use Rattle.serve_core.specs.States.{State, state_of}
use Rattle.serve_core.proofs.Events.Turns.{lease_inv}
use Rattle.serve_core.proofs.Items.Lists.{length_map_at}
use Rattle.serve_core.proofs.Transcripts.Openings.{going_on_is}
use Rattle.serve_hub.specs.declared.entry.Act.TheVariants as acts
use Rattle.serve_hub.specs.declared.entry.Entry.{Entry}
use Rattle.serve_hub.specs.declared.entry.Seat.TheVariants.{Worker}
use Rattle.serve_hub.specs.Books.{specs_of}
use Rattle.serve_hub.specs.Journal.{entry_of, events_of, transcript_of}
use Rattle.serve_work.specs.History.{AreEpochsBy, EpochValue, IsEpochBy, IsGone, OpensBehind, Terms}
use Rattle.serve_work.specs.HistoryLaws.{EarliestLaw, EpochDemandLaw, KeepsDemand, LeasesEarliest, state_behind}

-- what came first in a legal transcript is legal
legal_front : (m : State Blank) (p q : Transcript Blank Blank) → IsLegalFrom measures_any is_any_image m (joined p q)
    → IsLegalFrom measures_any is_any_image m p
legal_front m p Start l = l
legal_front m p (Then q e r) l = legal_front m p q l.0

legal_until : (specs : List StreamSpec) (m : State Blank) (later earlier : List Entry)
    → IsLegalFrom measures_any is_any_image m (transcript_of specs m (later ++ earlier))
    → IsLegalFrom measures_any is_any_image m (transcript_of specs m earlier)
legal_until specs m [] earlier l = l
legal_until specs m (e ∷ later) earlier l =
    let before = transcript_of specs m (later ++ earlier) in
    legal_until specs m later earlier (legal_front m before (events_of specs (state_from m before) e.seat e.act) l)

module _ (terms : Terms) (epoch : EpochValue) (is : IsEpochBy terms epoch) where
  pub legal_behind : (later earlier : List Entry) → epoch.journal ≡ later ++ earlier
      → IsLegalFrom measures_any is_any_image (desk_state epoch.opening)
      (transcript_of (specs_of epoch.last) (desk_state epoch.opening) earlier)
  legal_behind later earlier e =
      let m = desk_state epoch.opening in
      legal_until (specs_of epoch.last) m later earlier
      (subst (λ (past : List Entry). IsLegalFrom measures_any is_any_image m (transcript_of (specs_of epoch.last) m past)) e
      is.leads.leads.0)

  leases_earliest : LeasesEarliest epoch
  leases_earliest later earlier w s number grant e =
      let m = state_behind epoch earlier in
      let here = legal_behind later (entry_of (Worker w) (acts.Leased s number grant) ∷ earlier) e in
      (lease_inv Blank Blank (slice_get m.workers w) (AllowsLease {F = Blank} {G = Blank} m (events.Leased s number grant)) s number
      grant here.1).1.0

pub earliest_is : EarliestLaw
earliest_is terms [] are = tt
earliest_is terms (epoch ∷ before) are = (leases_earliest terms epoch are.0, earliest_is terms before are.2)

workers_count : (setup : Setup) (p : Transcript Blank Blank) → length (state_of setup p).workers ≡ setup.workers
workers_count setup p =
    length_map_at {X = ℕ} (λ w none. held w p) 0 (replicate setup.workers 0) ∙ length-replicate setup.workers 0

-- what leads on from a state that is reached has the same workers, and keeps the demand
module _ (m n : State Blank) (q : Transcript Blank Blank) (r : IsReached measures_any is_any_image m)
    (led : Leads measures_any is_any_image m q n) where
  followed : Leads measures_any is_any_image (state_of r.setup r.past) q n
  followed = subst (λ (s : State Blank). Leads measures_any is_any_image s q n) (sym r.state) led

  workers_on : length n.workers ≡ length m.workers
  workers_on =
      let all = going_on_is measures_any is_any_image r.setup r.past q n r.legal followed in
      ap (λ (s : State Blank). length s.workers) (sym all.1) ∙ workers_count r.setup (joined r.past q)
      ∙ sym (workers_count r.setup r.past) ∙ ap (λ (s : State Blank). length s.workers) r.state

  demand_on : WholeDemandLaw measures_any is_any_image → (d : ℕ) → demand d n.streams ≤ d * length m.workers
  demand_on law d =
      let all = going_on_is measures_any is_any_image r.setup r.past q n r.legal followed in
      let count : r.setup.workers ≡ length m.workers =
      sym (workers_count r.setup r.past) ∙ ap (λ (s : State Blank). length s.workers) r.state in
      subst (λ (k : ℕ). demand d n.streams ≤ d * k) count
      (subst (λ (s : State Blank). demand d s.streams ≤ d * r.setup.workers) all.1
      (law r.setup (joined r.past q) d r.is_setup.0 r.is_setup.1 all.0))

workers_left : (gone opening : ScheduleValue) → (opening ≡ gone) ⊎ (opening ≡ retired_schedule gone)
    → opening.workers ≡ gone.workers
workers_left gone opening (inl e) = ap (λ (x : ScheduleValue). x.workers) e
workers_left gone opening (inr e) = ap (λ (x : ScheduleValue). x.workers) e

pub workers_gone : (last gone : ScheduleValue) → IsGone last gone → gone.workers ≡ last.workers
workers_gone last gone (inl e) = ap (λ (x : ScheduleValue). x.workers) e
workers_gone last gone (inr g) = ap (λ (x : ScheduleValue). x.workers) g.2

-- each epoch has the session's workers
workers_are : (terms : Terms) (before : List EpochValue) (opening : ScheduleValue) → AreEpochsBy terms before
    → OpensBehind terms before opening → length opening.workers ≡ terms.workers
workers_are terms before opening are (inl o) =
    ap (λ (x : ScheduleValue). length x.workers) o.1.opened ∙ length-replicate {A = Option Held} terms.workers None
workers_are terms [] opening are (inr left) = absurd left
workers_are terms (epoch ∷ before) opening are (inr left) =
    ap length (workers_left epoch.gone opening left.1 ∙ workers_gone epoch.last epoch.gone are.0.goes_on)
    ∙ workers_on (desk_state epoch.opening) (desk_state epoch.last)
    (transcript_of (specs_of epoch.last) (desk_state epoch.opening) epoch.journal) are.0.reached are.0.leads.leads
    ∙ workers_are terms before epoch.opening are.2 are.1

keeps_demand : WholeDemandLaw measures_any is_any_image → (terms : Terms) (epoch : EpochValue) → IsEpochBy terms epoch
    → length epoch.opening.workers ≡ terms.workers → KeepsDemand terms epoch
keeps_demand law terms epoch is count later earlier d e =
    let m = desk_state epoch.opening in
    let q = transcript_of (specs_of epoch.last) m earlier in
    subst (λ (k : ℕ). demand d (state_behind epoch earlier).streams ≤ d * k) count
    (demand_on m (state_behind epoch earlier) q is.reached (legal_behind terms epoch is later earlier e, refl) law d)

pub epoch_demand_is : WholeDemandLaw measures_any is_any_image → EpochDemandLaw
epoch_demand_is law terms [] are = tt
epoch_demand_is law terms (epoch ∷ before) are = (
  keeps_demand law terms epoch are.0 (workers_are terms before epoch.opening are.2 are.1),
  epoch_demand_is law terms before are.2,
)
