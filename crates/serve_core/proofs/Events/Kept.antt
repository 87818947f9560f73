-- A turn keeps leases and holders together, and each step keeps a state sound.
use Rattle.std.proofs.Common.{ℕ, ◌+◌, ◌≡◌, ◌≢◌, ◌≤◌, ◌⊎◌, inl, inr, Bool, true, false, nat_eq, nat_lt}
use Rattle.std.proofs.Common.{if◌then◌else◌, refl, sym, ◌∙◌, ap, subst, arith, [], Option, Some, None}
use Rattle.std.proofs.Common.{slice_get, List, replicate, length, le_refl}
use Rattle.std.proofs.lemmas.List.{length-replicate}
use Rattle.cbs_account.specs.declared.limits.TheConstants.{LAST_MOMENT}
use Rattle.serve_core.specs.declared.refusal.Refusal.TheVariants as refusals
use Rattle.serve_core.specs.declared.held.Held.{Held}
use Rattle.serve_core.specs.Counts.{Back, Deed, Ended, Lent, Worked, clock_after, deed, held_after}
use Rattle.serve_core.specs.Counts.{one_more_used}
use Rattle.serve_core.specs.Events.{Admit, Admitted, Arrive, Band, Close, Collect, Event, Lease, Refused, Reply}
use Rattle.serve_core.specs.Events.{Settle, Start, Then, Tick, Ticked, Transcript, with_admitted}
use Rattle.serve_core.specs.Laws.{SoundLaw, SoundStepLaw}
use Rattle.serve_core.specs.Rules.{Allows}
use Rattle.serve_core.specs.Setup.{HasBandwidth, IsWithinLimits, IsWithin, Setup, StreamSpec}
use Rattle.serve_core.specs.Sound.{IsLeaseOf, IsSound, Sound}
use Rattle.serve_core.specs.States.{State, StreamState, after, did, did_any, held_at, map_at, state_of}
use Rattle.serve_core.specs.States.{new_stream, stream_of}
use Rattle.serve_core.proofs.Events.Newcomers.{get_admitted}
use Rattle.serve_core.proofs.Events.Soundness.{can, here_is, not_here, one_item, stays, quiet_holder, lent_lease}
use Rattle.serve_core.proofs.Events.Soundness.{worked_lease}
use Rattle.serve_core.proofs.Events.Steps.{new_lease}
use Rattle.serve_core.proofs.Events.Streams.{same_or, opened_sound, later_sound, did_any_sound}
use Rattle.serve_core.proofs.Events.Summary.{summary_more}
use Rattle.serve_core.proofs.Events.Turns.{Turn, Quiet, Lends, Works, Settles, turns, tested_ge}
use Rattle.serve_core.proofs.Items.Lists.{get_map_at, length_map_at, map_at_get, all_at, push_or}

some_same : {X : Type 0} (x y : X) → Some x ≡ Some y → x ≡ y
some_same x y e = cc

module _ {F : Type 0} where
  -- a stream has one holder
  pub one_holder : (m : State F) (w v : ℕ) (l k : Held) → Sound m → slice_get m.workers w ≡ Some (Some l)
      → slice_get m.workers v ≡ Some (Some k) → l.stream ≡ k.stream → w ≡ v
  one_holder m w v l k h e f p =
      let a = h.leases w l e in
      let b = h.leases v k f in
      let same : a.0 ≡ b.0 = one_item m.streams l.stream k.stream a.0 b.0 p a.1 b.1 in
      let two : Some w ≡ Some v = sym a.2.holder ∙ ap (λ (x : StreamState F). x.holder) same ∙ b.2.holder in
      some_same w v two

  worked_holder : (x : StreamState F) (b : Bool)
      → (did_any x (if b then Some Worked else None)).holder ≡ x.holder
  worked_holder x true = refl
  worked_holder x false = refl

  ended_holder : (x : StreamState F) (d : Deed F) (P : Type 0) (Q : Type 0) → (d ≡ Back) × P ⊎ (d ≡ Ended) × Q
      → (did x d).holder ≡ None
  ended_holder x d P Q h = elim h [ inl p ↦ rw p.0 refl | inr p ↦ rw p.0 refl ]

module _ {F G : Type 0} where
  -- a stream after the event
  pub get_after : (m : State F) (e : Event F) (r : Reply F G) (s : ℕ) (x : StreamState F)
      → slice_get m.streams s ≡ Some x
      → slice_get (after m e r).streams s ≡ Some (did_any x (deed s m.clock (held_at m.workers) e r))
  get_after m e r s x here =
      get_admitted new_stream e r (map_at 0 (λ s y. did_any y (deed s m.clock (held_at m.workers) e r)) m.streams)
      s (did_any x (deed s m.clock (held_at m.workers) e r))
      (map_at_get (λ s y. did_any y (deed s m.clock (held_at m.workers) e r)) s m.streams x here)

  -- the lease l of worker v, after the event
  abbrev pub Kept : State F → Event F → Reply F G → ℕ → Held → Type 0
  Kept m e r v l = (y : StreamState F) × (slice_get (after m e r).streams l.stream ≡ Some y) × IsLeaseOf v l y

  -- the stream of a lease, whatever was done to it
  kept_by : (m : State F) (e : Event F) (r : Reply F G) (v : ℕ) (l : Held) (x : StreamState F)
      (o : Option (Deed F)) → slice_get m.streams l.stream ≡ Some x
      → deed l.stream m.clock (held_at m.workers) e r ≡ o → IsLeaseOf v l (did_any x o) → Kept m e r v l
  kept_by m e r v l x o here d i = (
    did_any x o,
    subst (λ (p : Option (Deed F)). slice_get (after m e r).streams l.stream ≡ Some
        (did_any x p)) d (get_after m e r l.stream x here),
    i,
  )

  lease_kept : (m : State F) (e : Event F) (r : Reply F G) → Sound m → (v : ℕ) (l : Held) (h0 : Option Held)
      → slice_get m.workers v ≡ Some h0 → held_after v h0 e r ≡ Some l → Turn m e r → Kept m e r v l
  lease_kept m e r h v l h0 k q (Quiet deeds leases) =
      let old = h.leases v l (k ∙ ap Some (sym (leases v h0) ∙ q)) in
      kept_by m e r v l old.0 (deed l.stream m.clock (held_at m.workers) e r) old.1 refl
      (stays v l old.0 (deed l.stream m.clock (held_at m.workers) e r) (deeds l.stream) old.2)
  lease_kept m e r h v l h0 k q (Lends w u n g x free here ready number grant deeds leases) =
      elim (same_or w v) [
        | inl p ↦
            let c : Some l ≡ Some (new_lease u n g) = sym q ∙ leases v h0 ∙ rw p.1 refl in
            let new : l ≡ new_lease u n g = some_same l (new_lease u n g) c in
            let made : Kept m e r w (new_lease u n g) =
            kept_by m e r w (new_lease u n g) x (Some (Lent w)) here (deeds u ∙ here_is (Some (Lent w)) u)
            (lent_lease w u n g m.quantum m.clock x (h.streams u x here) h.quantum ready number grant) in
            subst (λ (a : ℕ). Kept m e r a l) p.0 (subst (Kept m e r w) (sym new) made)
        | inr p ↦
            let c : h0 ≡ Some l = sym (leases v h0 ∙ rw p.1 refl) ∙ q in
            let old = h.leases v l (k ∙ ap Some c) in
            let far : u ≢ l.stream = λ i.
            let same : x ≡ old.0 = one_item m.streams u l.stream x old.0 i here old.1 in
            let none : old.0.holder ≡ None = ap (λ (y : StreamState F). y.holder) (sym same) ∙ ready.1 in
            let some = old.2.holder in
            cc in
            kept_by m e r v l old.0 None old.1
            (deeds l.stream ∙ not_here (Some (Lent w)) u l.stream far) old.2
      ]
  lease_kept m e r h v l h0 k q (Works w a mine more deeds leases) =
      elim (same_or w v) [
        | inl p ↦
            let here : slice_get m.workers v ≡ Some (Some a) = rw p.0 at mine in
            let was : h0 ≡ Some a = some_same h0 (Some a) (sym k ∙ here) in
            let c : Some l ≡ one_more_used (Some a) = sym q ∙ leases v h0 ∙ rw p.1 (ap one_more_used was) in
            let b : Held = record {
              stream = a.stream;
              number = a.number;
              grant = a.grant;
              used = a.used + 1;
            } in
            let new : l ≡ b = some_same l b c in
            let old = h.leases v a here in
            let made : Kept m e r v b =
            kept_by m e r v b old.0 (Some Worked) old.1 (deeds a.stream ∙ here_is (Some Worked) a.stream)
            (worked_lease v a old.0 more old.2) in
            subst (Kept m e r v) (sym new) made
        | inr p ↦
            let c : h0 ≡ Some l = sym (leases v h0 ∙ rw p.1 refl) ∙ q in
            let here : slice_get m.workers v ≡ Some (Some l) = k ∙ ap Some c in
            let old = h.leases v l here in
            kept_by m e r v l old.0 None old.1
            (deeds l.stream ∙ not_here (Some Worked) a.stream l.stream
            (λ i. p.0 (one_holder m w v a l h mine here i))) old.2
      ]
  lease_kept m e r h v l h0 k q (Settles w a x d mine here all deeds leases) =
      elim (same_or w v) [
        | inl p ↦ absurd (let c : Some l ≡ None = sym q ∙ leases v h0 ∙ rw p.1 refl in cc)
        | inr p ↦
            let c : h0 ≡ Some l = sym (leases v h0 ∙ rw p.1 refl) ∙ q in
            let held : slice_get m.workers v ≡ Some (Some l) = k ∙ ap Some c in
            let old = h.leases v l held in
            kept_by m e r v l old.0 None old.1
            (deeds l.stream ∙ not_here (Some d) a.stream l.stream
            (λ i. p.0 (one_holder m w v a l h mine held i))) old.2
      ]

  -- who has stream s, after the event
  abbrev pub Has : State F → Event F → Reply F G → ℕ → ℕ → Type 0
  Has m e r s v = (l : Held) × (slice_get (after m e r).workers v ≡ Some (Some l)) × (l.stream ≡ s)

  has_by : (m : State F) (e : Event F) (r : Reply F G) (s v : ℕ) (h : Option Held) (l : Held)
      → slice_get m.workers v ≡ Some h → held_after v h e r ≡ Some l → l.stream ≡ s → Has m e r s v
  has_by m e r s v h l k q p = (l, map_at_get (λ w g. held_after w g e r) v m.workers h k ∙ ap Some q, p)

  holder_kept : (m : State F) (e : Event F) (r : Reply F G) → Sound m → (s : ℕ) (x : StreamState F) (v : ℕ)
      → slice_get m.streams s ≡ Some x → (did_any x (deed s m.clock (held_at m.workers) e r)).holder ≡ Some v
      → Turn m e r → Has m e r s v
  holder_kept m e r h s x v k q (Quiet deeds leases) =
      let old = h.holders s x v k (sym (quiet_holder x (deed s m.clock (held_at m.workers) e r) (deeds s))
      ∙ q) in
      has_by m e r s v (Some old.0) old.0 old.1 (leases v (Some old.0)) old.2
  holder_kept m e r h s x v k q (Lends w u n g y free here ready number grant deeds leases) =
      elim (same_or u s) [
        | inl p ↦
            let d : deed s m.clock (held_at m.workers) e r ≡ Some (Lent w) = deeds s ∙ rw p.1 refl in
            let c : Some w ≡ Some v = ap (λ (o : Option (Deed F)). (did_any x o).holder) (sym d) ∙ q in
            subst (Has m e r s) (some_same w v c)
            (has_by m e r s w None (new_lease u n g) free
            (leases w None ∙ here_is (Some (new_lease u n g)) w) p.0)
        | inr p ↦
            let d : deed s m.clock (held_at m.workers) e r ≡ None = deeds s ∙ rw p.1 refl in
            let old = h.holders s x v k (ap (λ (o : Option (Deed F)). (did_any x o).holder) (sym d) ∙ q) in
            let far : w ≢ v = λ i. let mine : slice_get m.workers v ≡ Some None = rw i at free in
            let two = old.1 in cc in
            elim (same_or w v) [
              | inl i ↦ absurd (far i.0)
              | inr i ↦ has_by m e r s v (Some old.0) old.0 old.1 (leases v (Some old.0) ∙ rw i.1 refl) old.2
            ]
      ]
  holder_kept m e r h s x v k q (Works w a mine more deeds leases) =
      let same : (did_any x (deed s m.clock (held_at m.workers) e r)).holder ≡ x.holder =
      ap (λ (o : Option (Deed F)). (did_any x o).holder) (deeds s)
      ∙ worked_holder x (nat_eq a.stream s) in
      let old = h.holders s x v k (sym same ∙ q) in
      elim (same_or w v) [
        | inl i ↦
            let b : Held = record {
              stream = old.0.stream;
              number = old.0.number;
              grant = old.0.grant;
              used = old.0.used + 1;
            } in
            has_by m e r s v (Some old.0) b old.1 (leases v (Some old.0) ∙ rw i.1 refl) old.2
        | inr i ↦ has_by m e r s v (Some old.0) old.0 old.1 (leases v (Some old.0) ∙ rw i.1 refl) old.2
      ]
  holder_kept m e r h s x v k q (Settles w a y d mine here all deeds leases) =
      elim (same_or a.stream s) [
        | inl p ↦ absurd (
            let e' : deed s m.clock (held_at m.workers) e r ≡ Some d = deeds s ∙ rw p.1 refl in
            let c : (did x d).holder ≡ Some v = ap (λ (o : Option (Deed F)). (did_any x o).holder) (sym e')
            ∙ q in
            let none = ended_holder x d _ _ all in
            cc)
        | inr p ↦
            let e' : deed s m.clock (held_at m.workers) e r ≡ None = deeds s ∙ rw p.1 refl in
            let old = h.holders s x v k (ap (λ (o : Option (Deed F)). (did_any x o).holder) (sym e') ∙ q) in
            elim (same_or w v) [
              | inl i ↦ absurd (p.0 (let g : slice_get m.workers v ≡ Some (Some a) = rw i.0 at mine in
                  let two = old.1 in let same : a ≡ old.0 = cc in ap (λ (l : Held). l.stream) same ∙ old.2))
              | inr i ↦ has_by m e r s v (Some old.0) old.0 old.1 (leases v (Some old.0) ∙ rw i.1 refl) old.2
            ]
      ]

  tick_test : (b c : Bool) → let r : Reply F G = Ticked in
      r ≡ (if b then Refused refusals.Past else if c then Refused refusals.ClockEnd else Ticked)
      → (b ≡ false) × (c ≡ false)
  tick_test true c h = absurd (cc)
  tick_test false true h = absurd (cc)
  tick_test false false h = (refl, refl)

module _ {F G : Type 0} (measures : StreamSpec → F → Bool → Type 0)
    (is_image : StreamSpec → F → G → Type 0) where
  -- the clock never falls, and keeps its limit
  pub rises : (m : State F) (e : Event F) (r : Reply F G) → m.clock ≤ LAST_MOMENT → Allows measures is_image m e r
      → (m.clock ≤ clock_after m.clock e r) × (clock_after m.clock e r ≤ LAST_MOMENT)
  rises m (Arrive u f) r l a = (le_refl m.clock, l)
  rises m (Lease w) r l a = (le_refl m.clock, l)
  rises m (Band w) r l a = (le_refl m.clock, l)
  rises m (Settle w) r l a = (le_refl m.clock, l)
  rises m (Tick to) Ticked l a =
      let t = tick_test {F = F} {G = G} (nat_lt to m.clock) (nat_lt LAST_MOMENT to) a in
      (tested_ge to m.clock t.0, tested_ge LAST_MOMENT to t.1)
  rises m (Tick to) r l a = (le_refl m.clock, l)
  rises m (Close u) r l a = (le_refl m.clock, l)
  rises m (Collect u) r l a = (le_refl m.clock, l)
  rises m (Admit spec) r l a = (le_refl m.clock, l)

  -- a stream that is there after an event, or was admitted by it
  abbrev pub IsNew : StreamState F → Type 0
  IsNew y = (spec : StreamSpec) × IsWithinLimits spec × HasBandwidth spec × (y ≡ new_stream spec)

  new_or : (m : State F) (e : Event F) (r : Reply F G) (xs : List (StreamState F)) (s : ℕ) (y : StreamState F)
      → Allows measures is_image m e r → slice_get (with_admitted new_stream e r xs) s ≡ Some y
      → (slice_get xs s ≡ Some y) ⊎ IsNew y
  new_or m (Admit spec) (Admitted u) xs s y a k =
      elim (push_or xs (new_stream spec) s y k) [
        | inl old ↦ inl old
        | inr last ↦ inr (spec, a.0.limits, a.0.bandwidth, last.1)
      ]
  new_or m e r xs s y a k = inl k

  -- a stream after the event is one that was there, with its deed, or a new one
  abbrev pub WasThere : State F → Event F → Reply F G → ℕ → StreamState F → Type 0
  WasThere m e r s y = (x : StreamState F) × (slice_get m.streams s ≡ Some x)
      × (y ≡ did_any x (deed s m.clock (held_at m.workers) e r))

  pub after_or : (m : State F) (e : Event F) (r : Reply F G) (s : ℕ) (y : StreamState F)
      → Allows measures is_image m e r → slice_get (after m e r).streams s ≡ Some y
      → WasThere m e r s y ⊎ IsNew y
  after_or m e r s y a k =
      let f = λ (s : ℕ) (x : StreamState F). did_any x (deed s m.clock (held_at m.workers) e r) in
      elim (new_or m e r (map_at 0 f m.streams) s y a k) [
        | inl old ↦ inl (get_map_at f s m.streams y old)
        | inr new ↦ inr new
      ]

  new_sound : (t : ℕ) (y : StreamState F) → IsNew y → IsSound t y
  new_sound t y n =
      subst (IsSound t) (sym n.3) (later_sound 0 t (new_stream n.0) (omega arith) (opened_sound n.0 n.1 n.2))

  new_idle : (y : StreamState F) (w : ℕ) → IsNew y → y.holder ≡ Some w → ⊥
  new_idle y w n q = let none : y.holder ≡ None = ap (λ (z : StreamState F). z.holder) n.3 in cc

  pub step_sound : SoundStepLaw measures is_image
  step_sound m e r h a =
      let t = turns measures is_image m e r a in
      let c = rises m e r h.clock a in
      record {
        clock = c.1;
        quantum = h.quantum;
        some_workers = rw (length_map_at (λ w h. held_after w h e r) 0 m.workers) h.some_workers;
        workers = rw (length_map_at (λ w h. held_after w h e r) 0 m.workers) h.workers;
        streams = λ s y k.
            elim (after_or m e r s y a k) [
              | inl g ↦ subst (IsSound (clock_after m.clock e r)) (sym g.2)
                  (later_sound m.clock (clock_after m.clock e r) _ c.0
                  (did_any_sound m.clock g.0 (deed s m.clock (held_at m.workers) e r) (h.streams s g.0 g.1)
                  (can measures is_image m e r s g.0 h a g.1)))
              | inr n ↦ new_sound (clock_after m.clock e r) y n
            ];
        leases = λ w l k.
            let g = get_map_at (λ v h. held_after v h e r) w m.workers (Some l) k in
            lease_kept m e r h w l g.0 g.1 (sym g.2) t;
        holders = λ s y w k q.
            elim (after_or m e r s y a k) [
              | inl g ↦ holder_kept m e r h s g.0 w g.1 (ap (λ (z : StreamState F). z.holder) (sym g.2) ∙ q) t
              | inr n ↦ absurd (new_idle y w n q)
            ];
      }

  none_held : (n w : ℕ) (l : Held) → slice_get (map_at {X = ℕ} 0 (λ w none. let h : Option Held = None in h)
      (replicate n 0)) w ≡ Some (Some l) → ⊥
  none_held n w l k = let g =
      get_map_at {X = ℕ} (λ w none. let h : Option Held = None in h) w (replicate n 0) (Some l) k in
      let no = g.2 in cc

  workers_opened : (n : ℕ)
      → length (map_at {X = ℕ} 0 (λ w none. let h : Option Held = None in h) (replicate n 0)) ≡ n
  workers_opened n =
      length_map_at {X = ℕ} (λ w none. let h : Option Held = None in h) 0 (replicate n 0)
      ∙ length-replicate n 0

  pub opening_sound : (setup : Setup) → IsWithin setup
      → Sound (state_of setup (let p : Transcript F G = Start in p))
  opening_sound setup v = record {
    clock = omega arith;
    quantum = v.limits.some_quantum;
    some_workers = rw (workers_opened setup.workers) v.limits.some_workers;
    workers = rw (workers_opened setup.workers) v.limits.workers;
    streams = λ s y k. let g = get_map_at (λ s spec. stream_of {F = F} spec []) s setup.streams y k in
        subst (IsSound 0) (sym g.2)
        (opened_sound g.0 (all_at IsWithinLimits setup.streams s g.0 v.limits.each g.1)
        (all_at HasBandwidth setup.streams s g.0 v.bandwidths g.1));
    leases = λ w l k. absurd (none_held setup.workers w l k);
    holders = λ s y w k q. absurd (let g = get_map_at (λ s spec. stream_of {F = F} spec [])
        s setup.streams y k in let n : y.holder ≡ None = ap (λ (z : StreamState F). z.holder) g.2 in cc);
  }

  pub sound : SoundLaw measures is_image
  sound setup Start v l = opening_sound setup v
  sound setup (Then p e r) v l =
      subst Sound (sym (summary_more F G setup p e r))
      (step_sound (state_of setup p) e r (sound setup p v l.0) l.1)
