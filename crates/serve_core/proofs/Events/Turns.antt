-- What an allowed reply tells, and the four kinds of turn that events take.
use Rattle.std.proofs.Common.{ℕ, ◌-◌, ◌≡◌, ◌≢◌, ◌≤◌, ◌<◌, ◌⊎◌, inl, inr, Bool, true, false, not, nat_eq}
use Rattle.std.proofs.Common.{nat_le, nat_lt, drop, if◌then◌else◌, refl, ap, arith, Option, Some, None}
use Rattle.std.proofs.Common.{slice_get, MatchOption}
use Rattle.std.proofs.lemmas.Bool.Decides.{nat_tests}
use Rattle.serve_core.specs.declared.refusal.Refusal.{Refusal}
use Rattle.serve_core.specs.declared.refusal.Refusal.TheVariants as refusals
use Rattle.serve_core.specs.declared.held.Held.{Held}
use Rattle.serve_core.specs.Counts.{Back, Deed, Ended, Lent, Worked, came, deed, has_stream, held_after}
use Rattle.serve_core.specs.Counts.{one_more_used, shut, taken}
use Rattle.serve_core.specs.Events.{Accepted, Admit, Arrive, Band, Close, Closing, Collect, Event, Finished}
use Rattle.serve_core.specs.Events.{GivenBack, Image, Lease, Leased, Refused, Reply, Returned, Settle}
use Rattle.serve_core.specs.Events.{Stepped, Tick}
use Rattle.serve_core.specs.Grants.{grant_of}
use Rattle.serve_core.specs.Rules.{Allows, AllowsArrive, AllowsLease, arrival_refusal}
use Rattle.serve_core.specs.Setup.{StreamSpec, costs, steps}
use Rattle.serve_core.specs.States.{State, StreamState, held_at}
use Rattle.serve_core.proofs.Events.Readiness.{IsReady, earliest_ready}
use Rattle.serve_core.proofs.Events.Steps.{new_lease, held_at_is}
use Rattle.serve_core.proofs.Events.Streams.{CanAny}
use Rattle.serve_core.proofs.Items.Options.{some_and}

-- the first reason of four, or none
abbrev first_of : (c d e l : Bool) → Option Refusal
first_of c d e l =
    if c then Some refusals.Closed
    else if not d then Some refusals.WrongSize
    else if e then Some refusals.TooManyFrames
    else if l then Some refusals.Full
    else None

first_none : (c d e l : Bool) → first_of c d e l ≡ None → (c ≡ false) × (e ≡ false) × (l ≡ false)
first_none true d e l h = absurd (cc)
first_none false false e l h = absurd (cc)
first_none false true true l h = absurd (cc)
first_none false true false true h = absurd (cc)
first_none false true false false h = (refl, refl, refl)

pub first_sized : (c d e l : Bool) → first_of c d e l ≡ None → d ≡ true
first_sized true d e l h = absurd (cc)
first_sized false false e l h = absurd (cc)
first_sized false true e l h = refl

pub tested_ne : (a b : ℕ) → nat_eq a b ≡ false → a ≢ b
tested_ne a b h = grind (arith, nat_tests)

pub tested_eq : (a b : ℕ) → nat_eq a b ≡ true → a ≡ b
tested_eq a b h = grind (arith, nat_tests)

pub tested_gt : (a b : ℕ) → nat_le a b ≡ false → b < a
tested_gt a b h = grind (arith, nat_tests)

pub tested_ge : (a b : ℕ) → nat_lt a b ≡ false → b ≤ a
tested_ge a b h = grind (arith, nat_tests)

pub tested_lt : (a b : ℕ) → nat_lt a b ≡ true → a < b
tested_lt a b h = grind (arith, nat_tests)

-- what a turn of the two events that end a lease is
pub IsEnd : {F : Type 0} → Deed F → Type 0
IsEnd Back = Unit {0}
IsEnd Ended = Unit {0}
IsEnd d = ⊥

module _ (F G : Type 0) where
  pub accepted_none : (o : Option Refusal) (n a : ℕ) (f : F) → let A : Reply F G = Accepted n in
      MatchOption o ((A ≡ Accepted a) ⊎ (A ≡ GivenBack refusals.NoMemory f)) (λ k. A ≡ GivenBack k f)
      → o ≡ None
  accepted_none None n a f h = refl
  accepted_none (Some k) n a f h = absurd (cc)

  pub lease_inv : (o : Option (Option Held)) (P : Type 0) (u n g : ℕ) → let r : Reply F G = Leased u n g in
      MatchOption o (r ≡ Refused refusals.NoWorker) (λ h. MatchOption h P (λ l. r ≡ Refused refusals.Busy))
      → (o ≡ Some None) × P
  lease_inv None P u n g h = absurd (cc)
  lease_inv (Some None) P u n g h = (refl, h)
  lease_inv (Some (Some l)) P u n g h = absurd (cc)

  band_test : (b : Bool) → let r : Reply F G = Stepped in
      r ≡ (if b then Refused refusals.GrantSpent else Stepped) → b ≡ false
  band_test true h = absurd (cc)
  band_test false h = refl

  pub band_inv : (o : Option (Option Held)) → let r : Reply F G = Stepped in
      MatchOption o (r ≡ Refused refusals.NoWorker)
      (λ h. MatchOption h (r ≡ Refused refusals.NoLease)
      (λ l. r ≡ (if nat_eq l.used l.grant then Refused refusals.GrantSpent else Stepped)))
      → (l : Held) × (o ≡ Some (Some l)) × (l.used ≢ l.grant)
  band_inv None h = absurd (cc)
  band_inv (Some None) h = absurd (cc)
  band_inv (Some (Some l)) h = (l, refl, tested_ne l.used l.grant (band_test (nat_eq l.used l.grant) h))

  pub settle_inv : (o : Option (Option Held)) (P : Held → Type 0) (r : Reply F G)
      → ((k : Refusal) → r ≡ Refused k → ⊥) → MatchOption o (r ≡ Refused refusals.NoWorker)
      (λ h. MatchOption h (r ≡ Refused refusals.NoLease) P) → (l : Held) × (o ≡ Some (Some l)) × P l
  settle_inv None P r other h = absurd (other refusals.NoWorker h)
  settle_inv (Some None) P r other h = absurd (other refusals.NoLease h)
  settle_inv (Some (Some l)) P r other h = (l, refl, h)

  pub returned_test : (b : Bool) (n : ℕ) → let r : Reply F G = Returned in
      r ≡ (if b then Finished n else Returned) → b ≡ false
  returned_test true n h = absurd (cc)
  returned_test false n h = refl

  pub finished_test : (b : Bool) (n k : ℕ) → let r : Reply F G = Finished k in
      r ≡ (if b then Finished n else Returned) → (b ≡ true) × (k ≡ n)
  finished_test true n k h = (refl, cc)
  finished_test false n k h = absurd (cc)

module _ {F : Type 0} where
  -- no lease and no holder changes
  abbrev pub IsQuiet : Option (Deed F) → Type 0
  IsQuiet (Some (Lent w)) = ⊥
  IsQuiet (Some Worked) = ⊥
  IsQuiet (Some Back) = ⊥
  IsQuiet (Some Ended) = ⊥
  IsQuiet o = Unit {0}

quiet_none : (F : Type 0) (b : Bool) → IsQuiet {F = F} (if b then None else None)
quiet_none F true = tt
quiet_none F false = tt

same_if : (b : Bool) (h : Option Held) → (if b then h else h) ≡ h
same_if true h = refl
same_if false h = refl

module _ {F G : Type 0} where
  -- a frame is accepted
  pub arrive_can : (t : ℕ) (x : StreamState F) (b : Bool) (f : F) (r : Reply F G) → AllowsArrive b x f r
      → CanAny t x (came t f r)
  arrive_can t x b f (Accepted n) h =
      let none = accepted_none F G (arrival_refusal b x) n x.accepted f h in
      let tests = first_none x.is_closed b (nat_eq x.accepted x.spec.frames)
      (nat_le x.spec.queue (x.accepted - x.finished)) none in (
        refl,
        tests.0,
        tested_ne x.accepted x.spec.frames tests.1,
        omega
            (arith, tested_gt x.spec.queue (x.accepted - x.finished) tests.2),
      )
  arrive_can t x b f r h = tt

  quiet_came : (b : Bool) (t : ℕ) (f : F) (r : Reply F G) → IsQuiet (if b then came t f r else None)
  quiet_came true t f (Accepted n) = tt
  quiet_came true t f r = tt
  quiet_came false t f r = tt

  quiet_shut : (b : Bool) (r : Reply F G) → IsQuiet (if b then shut r else None)
  quiet_shut true Closing = tt
  quiet_shut true r = tt
  quiet_shut false r = tt

  quiet_taken : (b : Bool) (r : Reply F G) → IsQuiet (if b then taken r else None)
  quiet_taken true (Image g) = tt
  quiet_taken true r = tt
  quiet_taken false r = tt

  pub data Turn (m : State F) (e : Event F) (r : Reply F G) : Type 0 where
    Quiet : (deeds : (s : ℕ) → IsQuiet (deed s m.clock (held_at m.workers) e r))
        (leases : (w : ℕ) (h : Option Held) → held_after w h e r ≡ h) → Turn m e r
    Lends : (w u n g : ℕ) (x : StreamState F) (free : slice_get m.workers w ≡ Some None)
        (here : slice_get m.streams u ≡ Some x) (ready : IsReady x) (number : n ≡ x.finished)
        (grant : g ≡ grant_of m.quantum x.account.budget (drop x.done (costs x.spec)))
        (deeds : (s : ℕ) → deed s m.clock (held_at m.workers) e r ≡
        (if nat_eq u s then Some (Lent w) else None))
        (leases : (v : ℕ) (h : Option Held)
        → held_after v h e r ≡ (if nat_eq w v then Some (new_lease u n g) else h)) → Turn m e r
    Works : (w : ℕ) (l : Held) (mine : slice_get m.workers w ≡ Some (Some l)) (more : l.used ≢ l.grant)
        (deeds : (s : ℕ) → deed s m.clock (held_at m.workers) e r ≡
        (if nat_eq l.stream s then Some Worked else None))
        (leases : (v : ℕ) (h : Option Held)
        → held_after v h e r ≡ (if nat_eq w v then one_more_used h else h)) → Turn m e r
    Settles : (w : ℕ) (l : Held) (x : StreamState F) (d : Deed F)
        (mine : slice_get m.workers w ≡ Some (Some l)) (here : slice_get m.streams l.stream ≡ Some x)
        (all : (d ≡ Back) × (x.done ≢ steps x.spec) ⊎ (d ≡ Ended) × (x.done ≡ steps x.spec))
        (deeds : (s : ℕ) → deed s m.clock (held_at m.workers) e r ≡
        (if nat_eq l.stream s then Some d else None))
        (leases : (v : ℕ) (h : Option Held) → held_after v h e r ≡ (if nat_eq w v then None else h))
        → Turn m e r

module _ {F G : Type 0} (measures : StreamSpec → F → Bool → Type 0)
    (is_image : StreamSpec → F → G → Type 0) where
  pub turns : (m : State F) (e : Event F) (r : Reply F G) → Allows measures is_image m e r → Turn m e r
  turns m (Arrive u f) r a = Quiet (λ s. quiet_came (nat_eq u s) m.clock f r) (λ w h. refl)
  turns m (Lease w) (Leased u n g) a =
      let free = lease_inv F G (slice_get m.workers w)
      (AllowsLease {F = F} {G = G} m (Leased u n g)) u n g a in
      let x = some_and (slice_get m.streams u) _ free.1.1 in
      Lends w u n g x.0 free.0 x.1 (earliest_ready m u x.0 free.1.0 x.1) x.2.0 x.2.1 (λ s. refl) (λ v h. refl)
  turns m (Lease w) r a = Quiet (λ s. tt) (λ v h. same_if (nat_eq w v) h)
  turns m (Band w) Stepped a =
      let mine = band_inv F G (slice_get m.workers w) a in
      let held = held_at_is m.workers w (Some mine.0) mine.1 in
      Works w mine.0 mine.1 mine.2
      (λ s. ap (λ (o : Option Held). if has_stream s o then Some Worked else None) held) (λ v h. refl)
  turns m (Band w) r a =
      Quiet (λ s. quiet_none F (has_stream s (held_at m.workers w))) (λ v h. same_if (nat_eq w v) h)
  turns m (Settle w) Returned a =
      let mine = settle_inv F G (slice_get m.workers w) _ Returned (λ k e. cc) a in
      let held = held_at_is m.workers w (Some mine.0) mine.1 in
      let x = some_and (slice_get m.streams mine.0.stream) _ mine.2 in
      Settles w mine.0 x.0 Back mine.1 x.1 (inl (
        refl,
        tested_ne x.0.done (steps x.0.spec)
            (returned_test F G (nat_eq x.0.done (steps x.0.spec)) x.0.finished x.2),
      ))
      (λ s. ap (λ (o : Option Held). if has_stream s o then Some Back else None) held) (λ v h. refl)
  turns m (Settle w) (Finished n) a =
      let mine = settle_inv F G (slice_get m.workers w) _ (Finished n) (λ k e. cc) a in
      let held = held_at_is m.workers w (Some mine.0) mine.1 in
      let x = some_and (slice_get m.streams mine.0.stream) _ mine.2 in
      Settles w mine.0 x.0 Ended mine.1 x.1 (inr (
        refl,
        tested_eq x.0.done (steps x.0.spec)
            (finished_test F G (nat_eq x.0.done (steps x.0.spec)) x.0.finished n x.2).0,
      ))
      (λ s. ap (λ (o : Option Held). if has_stream s o then Some Ended else None) held) (λ v h. refl)
  turns m (Settle w) r a =
      Quiet (λ s. quiet_none F (has_stream s (held_at m.workers w))) (λ v h. same_if (nat_eq w v) h)
  turns m (Tick to) r a = Quiet (λ s. tt) (λ w h. refl)
  turns m (Close u) r a = Quiet (λ s. quiet_shut (nat_eq u s) r) (λ w h. refl)
  turns m (Collect u) r a = Quiet (λ s. quiet_taken (nat_eq u s) r) (λ w h. refl)
  turns m (Admit spec) r a = Quiet (λ s. tt) (λ w h. refl)
