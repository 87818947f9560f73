-- A lease can be settled from the time that it is given.
use Rattle.std.proofs.Common.{ℕ, ◌+◌, ◌≡◌, ◌≤◌, inl, inr, Bool, true, false, nat_eq, if◌then◌else◌, refl, sym}
use Rattle.std.proofs.Common.{◌∙◌, ap, subst, arith, Option, Some, None, slice_get}
use Rattle.serve_core.specs.declared.held.Held.{Held}
use Rattle.serve_core.specs.AtOnce.{CanSettle, LentLaw, StillLaw, cost_of_next}
use Rattle.serve_core.specs.Counts.{Back, Came, Deed, Ended, Lent, Shut, Taken, Worked, deed, held_after}
use Rattle.serve_core.specs.Events.{Event, Lease, Leased, Reply}
use Rattle.serve_core.specs.Rules.{AllowsLease}
use Rattle.serve_core.specs.Setup.{StreamSpec}
use Rattle.serve_core.specs.Sound.{Sound}
use Rattle.serve_core.specs.States.{State, StreamState, after, did_any, held_at}
use Rattle.serve_core.proofs.Events.Kept.{get_after, one_holder}
use Rattle.serve_core.proofs.Events.Soundness.{here_is, not_here}
use Rattle.serve_core.proofs.Events.Steps.{new_lease}
use Rattle.serve_core.proofs.Events.Streams.{same_or}
use Rattle.serve_core.proofs.Events.Turns.{Turn, Quiet, Lends, Works, Settles, turns, IsQuiet, lease_inv}
use Rattle.serve_core.proofs.Items.Lists.{map_at_get}
use Rattle.serve_core.proofs.Items.Options.{some_and, and_some}

module _ {F : Type 0} where
  pub settle_inv : (m : State F) (w k units : ℕ) → CanSettle m w k units
      → (l : Held) × (x : StreamState F) × (slice_get m.workers w ≡ Some (Some l))
      × (slice_get m.streams l.stream ≡ Some x) × (l.used + k ≤ l.grant) × (units ≡ cost_of_next k x)
  settle_inv m w k units h =
      let a = some_and (slice_get m.workers w) _ h in
      let b = some_and a.0 _ a.2 in
      let c = some_and (slice_get m.streams b.0.stream) _ b.2.1 in
      (b.0, c.0, a.1 ∙ ap Some b.1, c.1, b.2.0, c.2)

  quiet_cost : (k : ℕ) (x : StreamState F) (o : Option (Deed F)) → IsQuiet o
      → cost_of_next k (did_any x o) ≡ cost_of_next k x
  quiet_cost k x None q = refl
  quiet_cost k x (Some (Came t f)) q = refl
  quiet_cost k x (Some Worked) q = absurd q
  quiet_cost k x (Some (Lent v)) q = absurd q
  quiet_cost k x (Some Back) q = absurd q
  quiet_cost k x (Some Ended) q = absurd q
  quiet_cost k x (Some Shut) q = refl
  quiet_cost k x (Some Taken) q = refl

  lent_cost : (k v : ℕ) (x : StreamState F) (b : Bool)
      → cost_of_next k (did_any x (if b then Some (Lent v) else None)) ≡ cost_of_next k x
  lent_cost k v x true = refl
  lent_cost k v x false = refl

module _ {F G : Type 0} where
  -- worker w still has its lease l, whatever was done to the stream x
  can_by : (m : State F) (e : Event F) (r : Reply F G) (w k units : ℕ) (h : Option Held) (l : Held)
      (x : StreamState F) (o : Option (Deed F)) → slice_get m.workers w ≡ Some h
      → slice_get m.streams l.stream ≡ Some x → l.used + k ≤ l.grant
      → held_after w h e r ≡ Some l → deed l.stream m.clock (held_at m.workers) e r ≡ o
      → units ≡ cost_of_next k (did_any x o) → CanSettle (after m e r) w k units
  can_by m e r w k units h l x o mine here u q d c =
      let stream : slice_get (after m e r).streams l.stream ≡ Some (did_any x o) =
      subst (λ (p : Option (Deed F)). slice_get (after m e r).streams l.stream ≡ Some (did_any x p)) d
      (get_after m e r l.stream x here) in
      and_some (slice_get (after m e r).workers w) _ (Some l)
      (map_at_get (λ v h. held_after v h e r) w m.workers h mine ∙ ap Some q)
      (u, and_some (slice_get (after m e r).streams l.stream) _ (did_any x o) stream c)

  still : (m : State F) (e : Event F) (r : Reply F G) (w k units : ℕ) (l : Held) (x : StreamState F) → Sound m
      → slice_get m.workers w ≡ Some (Some l) → slice_get m.streams l.stream ≡ Some x → l.used + k ≤ l.grant
      → units ≡ cost_of_next k x
      → held_after w (Some l) e r ≡ Some l → Turn m e r → CanSettle (after m e r) w k units
  still m e r w k units l x h mine here u c q (Quiet deeds leases) =
      can_by m e r w k units (Some l) l x _ mine here u q refl
      (c ∙ sym (quiet_cost k x (deed l.stream m.clock (held_at m.workers) e r) (deeds l.stream)))
  still m e r w k units l x h mine here u c q (Lends v s n g y free there ready number grant deeds leases) =
      can_by m e r w k units (Some l) l x (if nat_eq s l.stream then Some (Lent v) else None) mine here u q
      (deeds l.stream) (c ∙ sym (lent_cost k v x (nat_eq s l.stream)))
  still m e r w k units l x h mine here u c q (Works v a its more deeds leases) =
      elim (same_or v w) [
        | inl p ↦ absurd (
            let b : Held = record {
              stream = l.stream;
              number = l.number;
              grant = l.grant;
              used = l.used + 1;
            } in
            let two : Some b ≡ Some l = sym (leases w (Some l) ∙ rw p.1 refl) ∙ q in
            let used : l.used + 1 ≡ l.used = cc in
            omega (arith, used))
        | inr p ↦ can_by m e r w k units (Some l) l x None mine here u q
            (deeds l.stream ∙ not_here (Some Worked) a.stream l.stream
            (λ i. p.0 (one_holder m v w a l h its mine i))) c
      ]
  still m e r w k units l x h mine here u c q (Settles v a y d its there all deeds leases) =
      elim (same_or v w) [
        | inl p ↦ absurd (let none : None ≡ Some l = sym (leases w (Some l) ∙ rw p.1 refl) ∙ q in cc)
        | inr p ↦ can_by m e r w k units (Some l) l x None mine here u q
            (deeds l.stream ∙ not_here (Some d) a.stream l.stream
            (λ i. p.0 (one_holder m v w a l h its mine i))) c
      ]

module _ {F G : Type 0} (measures : StreamSpec → F → Bool → Type 0)
    (is_image : StreamSpec → F → G → Type 0) where
  pub lent_is : LentLaw measures is_image
  lent_is m w s n g k x a here u =
      let free = lease_inv F G (slice_get m.workers w)
      (AllowsLease {F = F} {G = G} m (Leased s n g)) s n g a in
      let r : Reply F G = Leased s n g in
      can_by m (Lease w) r w k (cost_of_next k x) None (new_lease s n g) x (Some (Lent w)) free.0 here
      (omega (arith, u)) (here_is (Some (new_lease s n g)) w) (here_is (Some (Lent w)) s) refl

  pub still_is : StillLaw measures is_image
  still_is m e r w k units h a same can =
      let i = settle_inv m w k units can in
      let now : slice_get (after m e r).workers w ≡ Some (held_after w (Some i.0) e r) =
      map_at_get (λ v h. held_after v h e r) w m.workers (Some i.0) i.2 in
      let q : Some (held_after w (Some i.0) e r) ≡ Some (Some i.0) = sym now ∙ same ∙ i.2 in
      still m e r w k units i.0 i.1 h i.2 i.3 i.4 i.5
      (let kept : held_after w (Some i.0) e r ≡ Some i.0 = cc in kept) (turns measures is_image m e r a)
