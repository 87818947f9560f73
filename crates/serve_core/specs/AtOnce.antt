-- Bands that are charged at once, where their lease is settled.
use Rattle.std.specs.Prelude.{ℕ, zero, suc, ◌+◌, ◌≡◌, ◌≤◌, drop, slice_get, slice_set, Some, None}
use Rattle.std.specs.Prelude.{IsSomeAnd}
use Rattle.cbs_account.specs.Rules.{after_units}
use Rattle.serve_core.specs.declared.held.Held.{Held}
use Rattle.serve_core.specs.Counts.{settled}
use Rattle.serve_core.specs.Events.{Event, Lease, Band, Settle, Reply, Leased, Stepped, Transcript, Start}
use Rattle.serve_core.specs.Events.{Then}
use Rattle.serve_core.specs.Grants.{cost_of_first}
use Rattle.serve_core.specs.Leads.{Leads}
use Rattle.serve_core.specs.Rules.{Allows, settle_reply}
use Rattle.serve_core.specs.Setup.{ImageRelation, SizeTest}
use Rattle.serve_core.specs.Setup.{costs}
use Rattle.serve_core.specs.Sound.{Sound}
use Rattle.serve_core.specs.States.{StreamState, State, after, did_any}

-- a lease with k bands more
abbrev pub with_used : ℕ → Held → Held
with_used k l = record { stream = l.stream; number = l.number; grant = l.grant; used = l.used + k }

module _ {F : Type 0} where
  -- what the next k bands of a stream cost
  abbrev pub cost_of_next : ℕ → StreamState F → ℕ
  cost_of_next k x = cost_of_first k (drop x.done (costs x.spec))

  -- a stream with k bands more, whose units are charged as one sum
  abbrev pub worked_at_once : ℕ → StreamState F → StreamState F
  worked_at_once k x = record x {
    charged = x.charged + cost_of_next k x;
    done = x.done + k;
    account = after_units (cost_of_next k x) x.account;
  }

  -- the state in which worker w has done k bands more of its lease l of stream x
  abbrev pub at_once : State F → (w k : ℕ) → Held → StreamState F → State F
  at_once m w k l x = record m {
    streams = slice_set m.streams l.stream (worked_at_once k x);
    workers = slice_set m.workers w (Some (with_used k l));
  }

  -- worker w has a lease that allows k bands more, and these cost the units
  abbrev pub CanSettle : State F → (w k units : ℕ) → Type 0
  CanSettle m w k units =
      IsSomeAnd (slice_get m.workers w) (λ h.
      IsSomeAnd h (λ l.
      (l.used + k ≤ l.grant) × IsSomeAnd (slice_get m.streams l.stream) (λ x. units ≡ cost_of_next k x)))

module _ {F G : Type 0} where
  -- k bands of worker w, one by one
  abbrev pub bands : (w k : ℕ) → Transcript F G
  bands w zero = Start
  bands w (suc k) = Then (bands w k) (Band w) Stepped

  -- and its settlement, with the reply r
  abbrev pub bands_settled : (w k : ℕ) → Reply F G → Transcript F G
  bands_settled w k r = Then (bands w k) (Settle w) r

  -- the state in which worker w has done k bands more of its lease l of stream x, and then settled it
  -- with the reply r
  abbrev pub at_once_settled : State F → (w k : ℕ) → Held → StreamState F → Reply F G → State F
  at_once_settled m w k l x r = record m {
    streams = slice_set m.streams l.stream (did_any (worked_at_once k x) (settled r));
    workers = slice_set m.workers w None;
  }

module _ {F G : Type 0} (measures : SizeTest F) (is_image : ImageRelation F G) where
  -- bands that are charged one by one lead to where their sum leads at once
  abbrev pub AtOnceLaw : Type 0
  AtOnceLaw =
      (m : State F) (w k : ℕ) (l : Held) (x : StreamState F) → slice_get m.workers w ≡ Some (Some l)
      → slice_get m.streams l.stream ≡ Some x → l.used + k ≤ l.grant
      → Leads measures is_image m (bands w k) (at_once m w k l x)

  -- and so do they with their settlement
  abbrev pub SettledLaw : Type 0
  SettledLaw =
      (m : State F) (w k : ℕ) (l : Held) (x : StreamState F) → slice_get m.workers w ≡ Some (Some l)
      → slice_get m.streams l.stream ≡ Some x → l.used + k ≤ l.grant
      → let r : Reply F G = settle_reply (worked_at_once k x) in
      Leads measures is_image m (bands_settled w k r) (at_once_settled m w k l x r)

  -- a lease can be settled with any number of its bands from the time that it is given
  abbrev pub LentLaw : Type 0
  LentLaw =
      (m : State F) (w s n g k : ℕ) (x : StreamState F)
      → let r : Reply F G = Leased s n g in
      Allows measures is_image m (Lease w) r → slice_get m.streams s ≡ Some x → k ≤ g
      → CanSettle (after m (Lease w) r) w k (cost_of_next k x)

  -- and as long as it is the same, whatever else happens
  abbrev pub StillLaw : Type 0
  StillLaw =
      (m : State F) (e : Event F) (r : Reply F G) (w k units : ℕ) → Sound m → Allows measures is_image m e r
      → slice_get (after m e r).workers w ≡ slice_get m.workers w
      → CanSettle m w k units → CanSettle (after m e r) w k units
