-- Legal transcripts lead to sound states.
use Rattle.std.proofs.Common.{ℕ, ◌+◌, ◌-◌, ◌≡◌, ◌≢◌, ◌≤◌, ◌<◌, ◌⊎◌, inl, inr, Bool, true, false, nat_eq}
use Rattle.std.proofs.Common.{nat_lt, drop, length, length-drop, if◌then◌else◌, refl, sym, ap, subst, arith}
use Rattle.std.proofs.Common.{List, Option, Some, None, slice_get, MatchBool}
use Rattle.std.proofs.lemmas.Bool.Decides.{nat_tests}
use Rattle.std.proofs.lemmas.Option.{MatchOption-at_some}
use Rattle.serve_core.specs.declared.refusal.Refusal.{Refusal}
use Rattle.serve_core.specs.declared.refusal.Refusal.TheVariants as refusals
use Rattle.serve_core.specs.declared.held.Held.{Held}
use Rattle.serve_core.specs.Counts.{Back, Came, Deed, Ended, Lent, Shut, Taken, Worked, deed, has_stream}
use Rattle.serve_core.specs.Counts.{shut, taken}
use Rattle.serve_core.specs.Events.{Admit, Arrive, Band, Close, Closing, Collect, Event, Finished, GivenBack}
use Rattle.serve_core.specs.Events.{Image}
use Rattle.serve_core.specs.Events.{Lease, Leased, Refused, Reply, Returned, Settle, Stepped, Tick}
use Rattle.serve_core.specs.Grants.{grant_of}
use Rattle.serve_core.specs.Rules.{Allows, AllowsArrive, AllowsCollect, AllowsLease}
use Rattle.serve_core.specs.Setup.{StreamSpec, costs, steps}
use Rattle.serve_core.specs.Sound.{IsLeaseOf, IsSound, Sound, out_count}
use Rattle.serve_core.specs.States.{State, StreamState, did, did_any, held_at}
use Rattle.serve_core.proofs.Bands.Grants.{grant_some, grant_left}
use Rattle.serve_core.proofs.Events.Readiness.{IsReady, earliest_ready}
use Rattle.serve_core.proofs.Events.Steps.{new_lease, held_at_is}
use Rattle.serve_core.proofs.Events.Streams.{CanAny, same_or}
use Rattle.serve_core.proofs.Events.Turns.{IsQuiet, arrive_can, lease_inv, band_inv, settle_inv, returned_test}
use Rattle.serve_core.proofs.Events.Turns.{finished_test, tested_ne, tested_eq, tested_lt}
use Rattle.serve_core.proofs.Items.Options.{some_and}

nat_same : (n : ℕ) → nat_eq n n ≡ true
nat_same n = grind (arith, nat_tests)

tested_if : (b c : Bool) → let P : Bool = if b then c else true in P ≡ true → (b ≡ false) ⊎ (c ≡ true)
tested_if true c h = inr h
tested_if false c h = inl refl

module _ {X : Type 0} where
  pub here_is : (o : Option X) (s : ℕ) → (if nat_eq s s then o else None) ≡ o
  here_is o s = rw (nat_same s) refl

  pub not_here : (o : Option X) (u s : ℕ) → u ≢ s → (if nat_eq u s then o else None) ≡ None
  not_here o u s n = elim (same_or u s) [ inl p ↦ absurd (n p.0) | inr p ↦ rw p.1 refl ]

  pub one_item : (xs : List X) (u s : ℕ) (y x : X) → u ≡ s → slice_get xs u ≡ Some y → slice_get xs s ≡ Some x
      → y ≡ x
  one_item xs u s y x p e f = let g : slice_get xs s ≡ Some y = rw p at e in cc

module _ {F : Type 0} where
  pub stays : (w : ℕ) (l : Held) (x : StreamState F) (o : Option (Deed F)) → IsQuiet o → IsLeaseOf w l x
      → IsLeaseOf w l (did_any x o)
  stays w l x None q h = h
  stays w l x (Some (Came t f)) q h =
      record {
        holder = h.holder;
        number = h.number;
        some = h.some;
        within = h.within;
        used = h.used;
        left = h.left;
      }
  stays w l x (Some Worked) q h = absurd q
  stays w l x (Some (Lent v)) q h = absurd q
  stays w l x (Some Back) q h = absurd q
  stays w l x (Some Ended) q h = absurd q
  stays w l x (Some Shut) q h =
      record {
        holder = h.holder;
        number = h.number;
        some = h.some;
        within = h.within;
        used = h.used;
        left = h.left;
      }
  stays w l x (Some Taken) q h =
      record {
        holder = h.holder;
        number = h.number;
        some = h.some;
        within = h.within;
        used = h.used;
        left = h.left;
      }

  pub quiet_holder : (x : StreamState F) (o : Option (Deed F)) → IsQuiet o → (did_any x o).holder ≡ x.holder
  quiet_holder x None q = refl
  quiet_holder x (Some (Came t f)) q = refl
  quiet_holder x (Some Worked) q = absurd q
  quiet_holder x (Some (Lent v)) q = absurd q
  quiet_holder x (Some Back) q = absurd q
  quiet_holder x (Some Ended) q = absurd q
  quiet_holder x (Some Shut) q = refl
  quiet_holder x (Some Taken) q = refl

  pub lent_lease : (w u n g q : ℕ) (t : ℕ) (x : StreamState F) → IsSound t x → 1 ≤ q → IsReady x
      → n ≡ x.finished → g ≡ grant_of q x.account.budget (drop x.done (costs x.spec))
      → IsLeaseOf w (new_lease u n g) (did x (Lent w))
  lent_lease w u n g q t x h some r e f =
      let less = h.rest r.1 in
      let many : length (drop x.done (costs x.spec)) ≡ steps x.spec - x.done =
      length-drop x.done (costs x.spec) in
      let left : g ≤ length (drop x.done (costs x.spec)) =
      rw f (grant_left q x.account.budget (drop x.done (costs x.spec)) (omega (arith, many, less))) in
      record {
        holder = refl;
        number = e;
        some = rw f (grant_some q x.account.budget
            (drop x.done (costs x.spec)));
        within = omega (arith, left, many);
        used = omega arith;
        left = omega (arith, h.done, left, many);
      }

  pub worked_lease : (w : ℕ) (l : Held) (x : StreamState F) → l.used ≢ l.grant → IsLeaseOf w l x
      → IsLeaseOf w (record { stream = l.stream; number = l.number; grant = l.grant; used = l.used + 1 })
      (did x Worked)
  worked_lease w l x more h =
      record {
        holder = h.holder;
        number = h.number;
        some = h.some;
        within = h.within;
        used = omega (arith, h.used);
        left = omega (arith, h.left);
      }

  can_lends : (t w u s : ℕ) (m : State F) (x y : StreamState F) → slice_get m.streams u ≡ Some y → IsReady y
      → slice_get m.streams s ≡ Some x → CanAny t x (if nat_eq u s then Some (Lent w) else None)
  can_lends t w u s m x y e r k =
      elim (same_or u s) [
        | inl p ↦ rw p.1 (subst IsReady (one_item m.streams u s y x p.0 e k) r)
        | inr p ↦ rw p.1 tt
      ]

  out_some : (x : StreamState F) (w : ℕ) → x.holder ≡ Some w → out_count x.holder ≡ 1
  out_some x w e = ap out_count e

  can_works : (t w s : ℕ) (m : State F) (l : Held) (x : StreamState F) → Sound m
      → slice_get m.workers w ≡ Some (Some l) → l.used ≢ l.grant → slice_get m.streams s ≡ Some x
      → CanAny t x (if nat_eq l.stream s then Some Worked else None)
  can_works t w s m l x h e n k =
      elim (same_or l.stream s) [
        | inl p ↦ rw p.1 (
            let old = h.leases w l e in
            let mine : IsLeaseOf w l x =
            subst (IsLeaseOf w l) (one_item m.streams l.stream s old.0 x p.0 old.1 k) old.2 in
            (out_some x w mine.holder, omega (arith, mine.used, mine.left)))
        | inr p ↦ rw p.1 tt
      ]

  can_none : (t : ℕ) (x : StreamState F) (b : Bool) → CanAny t x (if b then None else None)
  can_none t x true = tt
  can_none t x false = tt

  can_ends : (t w s : ℕ) (m : State F) (l : Held) (x : StreamState F) → Sound m
      → slice_get m.workers w ≡ Some (Some l) → slice_get m.streams s ≡ Some x → l.stream ≡ s
      → (out_count x.holder ≡ 1) × (x.done ≤ steps x.spec)
  can_ends t w s m l x h e k p =
      let old = h.leases w l e in
      let mine : IsLeaseOf w l x =
      subst (IsLeaseOf w l) (one_item m.streams l.stream s old.0 x p old.1 k) old.2 in
      (out_some x w mine.holder, (h.streams s x k).done)

module _ {F G : Type 0} where
  can_shut : (t : ℕ) (x : StreamState F) (b : Bool) (r : Reply F G) → CanAny t x (if b then shut r else None)
  can_shut t x true Closing = tt
  can_shut t x true r = tt
  can_shut t x false r = tt

module _ {F G : Type 0} (measures : StreamSpec → F → Bool → Type 0)
    (is_image : StreamSpec → F → G → Type 0) where
  collect_test : (b : Bool) (P : Type 0) (k : Refusal) (g : G) → let r : Reply F G = Image g in
      MatchBool b P (r ≡ Refused k) → (b ≡ true) × P
  collect_test true P k g h = (refl, h)
  collect_test false P k g h = absurd (cc)

  one_image : (g h : G) → let r : Reply F G = Image g in r ≡ Image h → g ≡ h
  one_image g h e = cc

  -- an image that is given is that of the first frame
  pub image_facts : (x : StreamState F) (g : G) → AllowsCollect measures is_image x (Image g)
      → (x.collected < x.finished) × ((f : F) × (slice_get x.frames 0 ≡ Some f) × is_image x.spec f g)
  image_facts x g h =
      let t = collect_test (nat_lt x.collected x.finished) _ _ g h in
      let f = some_and (slice_get x.frames 0) _ t.1 in (
        tested_lt x.collected x.finished t.0,
        (
          f.0,
          f.1,
          subst (is_image x.spec f.0)
              (sym (one_image g f.2.0 f.2.2)) f.2.1,
        ),
      )

  collect_can : (t : ℕ) (x : StreamState F) (r : Reply F G) → AllowsCollect measures is_image x r
      → CanAny t x (taken r)
  collect_can t x (Image g) h = (image_facts x g h).0
  collect_can t x r h = tt

  pub can : (m : State F) (e : Event F) (r : Reply F G) (s : ℕ) (x : StreamState F) → Sound m
      → Allows measures is_image m e r → slice_get m.streams s ≡ Some x
      → CanAny m.clock x (deed s m.clock (held_at m.workers) e r)
  can m (Arrive u f) r s x h a k =
      elim (same_or u s) [
        | inl p ↦ rw p.1 (
            let k' : slice_get m.streams u ≡ Some x = rw p.0 k in
            let b = MatchOption-at_some (r ≡ GivenBack refusals.NoStream f)
            (λ x. (fits : Bool) × measures x.spec f fits × AllowsArrive fits x f r) x k' a in
            arrive_can m.clock x b.0 f r b.2)
        | inr p ↦ rw p.1 tt
      ]
  can m (Lease w) (Leased u n g) s x h a k =
      let free = lease_inv F G (slice_get m.workers w)
      (AllowsLease {F = F} {G = G} m (Leased u n g)) u n g a in
      let y = some_and (slice_get m.streams u) _ free.1.1 in
      can_lends m.clock w u s m x y.0 y.1 (earliest_ready m u y.0 free.1.0 y.1) k
  can m (Lease w) r s x h a k = tt
  can m (Band w) Stepped s x h a k =
      let mine = band_inv F G (slice_get m.workers w) a in
      rw (held_at_is m.workers w (Some mine.0) mine.1) (can_works m.clock w s m mine.0 x h mine.1 mine.2 k)
  can m (Band w) r s x h a k = can_none m.clock x (has_stream s (held_at m.workers w))
  can m (Settle w) Returned s x h a k =
      let mine = settle_inv F G (slice_get m.workers w) _ Returned (λ k e. cc) a in
      let y = some_and (slice_get m.streams mine.0.stream) _ mine.2 in
      let not = tested_ne y.0.done (steps y.0.spec)
      (returned_test F G (nat_eq y.0.done (steps y.0.spec)) y.0.finished y.2) in
      rw (held_at_is m.workers w (Some mine.0) mine.1) (elim (same_or mine.0.stream s) [
        | inl p ↦ rw p.1 (
            let same : y.0 ≡ x = one_item m.streams mine.0.stream s y.0 x p.0 y.1 k in
            let n : x.done ≢ steps x.spec = subst (λ (z : StreamState F). z.done ≢ steps z.spec) same not in
            let c = can_ends m.clock w s m mine.0 x h mine.1 k p.0 in
            (c.0, omega (arith, c.1, n)))
        | inr p ↦ rw p.1 tt
      ])
  can m (Settle w) (Finished n) s x h a k =
      let mine = settle_inv F G (slice_get m.workers w) _ (Finished n) (λ k e. cc) a in
      let y = some_and (slice_get m.streams mine.0.stream) _ mine.2 in
      let all = tested_eq y.0.done (steps y.0.spec)
      (finished_test F G (nat_eq y.0.done (steps y.0.spec)) y.0.finished n y.2).0 in
      rw (held_at_is m.workers w (Some mine.0) mine.1) (elim (same_or mine.0.stream s) [
        | inl p ↦ rw p.1 (
            let same : y.0 ≡ x = one_item m.streams mine.0.stream s y.0 x p.0 y.1 k in
            let n : x.done ≡ steps x.spec = subst (λ (z : StreamState F). z.done ≡ steps z.spec) same all in
            ((can_ends m.clock w s m mine.0 x h mine.1 k p.0).0, n))
        | inr p ↦ rw p.1 tt
      ])
  can m (Settle w) r s x h a k = can_none m.clock x (has_stream s (held_at m.workers w))
  can m (Tick to) r s x h a k = tt
  can m (Close u) r s x h a k = can_shut m.clock x (nat_eq u s) r
  can m (Collect u) r s x h a k =
      elim (same_or u s) [
        | inl p ↦ rw p.1 (
            let k' : slice_get m.streams u ≡ Some x = rw p.0 k in
            collect_can m.clock x r (MatchOption-at_some (r ≡ Refused refusals.NoStream)
            (λ x. AllowsCollect measures is_image x r) x k' a))
        | inr p ↦ rw p.1 tt
      ]
  can m (Admit spec) r s x h a k = tt
