-- What an event does to some of the streams alone: nothing, or what one event there does.
use Rattle.std.proofs.Common.{ℕ, ◌≡◌, ◌≤◌, ◌<◌, ◌⊎◌, inl, inr, Bool, true, false, nat_eq}
use Rattle.std.proofs.Common.{if◌then◌else◌, refl, sym, ◌∙◌, ap, subst, arith, List, [], ◌∷◌, ◌++◌, length, map}
use Rattle.std.proofs.Common.{Option, Some, None, slice_get, slice_set}
use Rattle.std.proofs.Common.{◌+◌, true≢false}
use Rattle.std.proofs.lemmas.Option.{slice_get_within}
use Rattle.serve_core.specs.declared.held.Held.{Held}
use Rattle.serve_core.specs.declared.refusal.Refusal.{Refusal}
use Rattle.serve_core.specs.declared.refusal.Refusal.TheVariants as refusals
use Rattle.serve_core.specs.Counts.{Came, Deed, Lent, Shut, Taken, Worked, came, deed, delivered, has_stream, held}
use Rattle.serve_core.specs.Counts.{held_below, next_deed, now, settled, shut, specs, worked}
use Rattle.serve_core.specs.Events.{Accepted, Admit, Admitted, Arrive, Band, Close, Closing, Collect, Event}
use Rattle.serve_core.specs.Events.{Finished, Image, Lease, Leased, Refused, Reply, Returned, Settle}
use Rattle.serve_core.specs.Events.{Stepped, Then, Tick, Ticked, Transcript}
use Rattle.serve_core.specs.Rules.{Allows, AllowsLease}
use Rattle.serve_core.specs.Setup.{Setup, StreamSpec}
use Rattle.serve_core.specs.Sound.{Sound}
use Rattle.serve_core.specs.States.{State, StreamState, after, did, did_any, held_at}
use Rattle.serve_core.specs.States.{state_of}
use Rattle.serve_core.proofs.Events.Changes.{after_admit, after_arrive, after_band, after_close, after_collect}
use Rattle.serve_core.proofs.Events.Changes.{after_lease, after_settle, after_tick}
use Rattle.serve_core.proofs.Events.Soundness.{not_here}
use Rattle.serve_core.proofs.Events.Steps.{held_at_is, new_lease, quiet_streams, quiet_workers, state, state_is}
use Rattle.serve_core.proofs.Events.Summary.{deed_same, held_by_list, next_is}
use Rattle.serve_core.proofs.Events.Turns.{lease_inv}
use Rattle.serve_core.proofs.Items.Lists.{map_at_same}
use Rattle.serve_core.proofs.Items.Options.{and_some, some_and}
use Rattle.serve_core.proofs.Items.Picks.{is_picked}
use Rattle.serve_core.proofs.Items.Picks.{place}
use Rattle.serve_core.proofs.Items.Picks.{place_lt, place_test, true_or}
use Rattle.serve_core.proofs.Transcripts.PickedStates.{admit_alone, alone, earliest_in, free_to, held_of}
use Rattle.serve_core.proofs.Transcripts.PickedStates.{held_to, hold_in, hold_out, lease_alone, lease_in}
use Rattle.serve_core.proofs.Transcripts.PickedStates.{lease_out, moved, put_in, put_out, some_of, some_to}
use Rattle.serve_core.proofs.Transcripts.PickedStates.{sooner, stream_in, streams_alone, worker_in}

none_if : (X : Type 0) (b : Bool) → let none : Option X = None in (if b then none else none) ≡ none
none_if X true = refl
none_if X false = refl

pub lt_or_le : (a b : ℕ) → (a < b) ⊎ (b ≤ a)
lt_or_le a b = grind arith

-- an image more, if there is one
abbrev pub with_image : {G : Type 0} → Option G → List G → List G
with_image None xs = xs
with_image (Some g) xs = xs ++ g ∷ []

image_if : {G : Type 0} (b : Bool) (xs : List G) (g : G)
    → (if b then xs ++ g ∷ [] else xs) ≡ with_image (if b then Some g else None) xs
image_if true xs g = refl
image_if false xs g = refl

module _ {F G : Type 0} where
  -- the image that stream s gave by an event
  abbrev pub given : ℕ → Event F → Reply F G → Option G
  given s (Collect u) (Image g) = if nat_eq u s then Some g else None
  given s e r = None

  pub delivered_more : (s : ℕ) (p : Transcript F G) (e : Event F) (r : Reply F G)
      → delivered s (Then p e r) ≡ with_image (given s e r) (delivered s p)
  delivered_more s p (Collect u) (Image g) = image_if (nat_eq u s) (delivered s p) g
  delivered_more s p e r = refl

  -- what an event did to a stream that is there
  pub next_told : (setup : Setup) (p : Transcript F G) (e : Event F) (r : Reply F G) (s : ℕ)
      → s < length (specs setup p)
      → next_deed setup s p e r
      ≡ deed s (state_of setup p).clock (held_at (state_of setup p).workers) e r
  next_told setup p e r s l =
      next_is setup s p e r l
      ∙ deed_same s (now p) (held_below setup.workers p) (held_at (state_of setup p).workers) e r
      (held_by_list setup p)

  -- only of one stream an event tells something
  record IsOf (m : State F) (e : Event F) (r : Reply F G) (u : ℕ) (o : Option (Deed F)) (g : Option G) : Type 0 where
    deeds : (s : ℕ) → deed s m.clock (held_at m.workers) e r ≡ (if nat_eq u s then o else None)
    images : (s : ℕ) → given s e r ≡ (if nat_eq u s then g else None)

  -- of no stream that is picked
  pub record IsUnseen (bs : List Bool) (m : State F) (e : Event F) (r : Reply F G) : Type 0 where
    pub deeds : (s : ℕ) → is_picked bs s ≡ true → deed s m.clock (held_at m.workers) e r ≡ None
    pub images : (s : ℕ) → is_picked bs s ≡ true → given s e r ≡ None

  -- the event d tells there of the picked streams what e tells here, and of none that comes later
  pub record IsSeen (bs : List Bool) (m : State F) (e : Event F) (r : Reply F G) (k : State F) (d : Event F)
      (a : Reply F G) : Type 0 where
    pub deeds : (s : ℕ) → is_picked bs s ≡ true
        → deed (place bs s) k.clock (held_at k.workers) d a ≡ deed s m.clock (held_at m.workers) e r
    pub none : (t : ℕ) → place bs (length m.streams) ≤ t → deed t k.clock (held_at k.workers) d a ≡ None
    pub images : (s : ℕ) → is_picked bs s ≡ true → given (place bs s) d a ≡ given s e r

  seen_by : (bs : List Bool) (m k : State F) (e d : Event F) (r a : Reply F G) (u : ℕ) (x : StreamState F)
      (o : Option (Deed F)) (g : Option G) → is_picked bs u ≡ true → slice_get m.streams u ≡ Some x
      → IsOf m e r u o g → IsOf k d a (place bs u) o g → IsSeen bs m e r k d a
  seen_by bs m k e d r a u x o g p here h i = record {
    deeds = λ s q. i.deeds (place bs s) ∙ ap (λ (b : Bool). if b then o else None) (place_test bs u s p q)
        ∙ sym (h.deeds s);
    none = λ t l.
        let within = place_lt bs u (length m.streams) p (slice_get_within m.streams u x here) in
        i.deeds t ∙ not_here o (place bs u) t (λ c. omega (arith, within, l, c));
    images = λ s q. i.images (place bs s) ∙ ap (λ (b : Bool). if b then g else None) (place_test bs u s p q)
        ∙ sym (h.images s);
  }

  unseen_by : (bs : List Bool) (m : State F) (e : Event F) (r : Reply F G) (u : ℕ) (o : Option (Deed F))
      (g : Option G) → is_picked bs u ≡ false → IsOf m e r u o g → IsUnseen bs m e r
  unseen_by bs m e r u o g p h =
      let other = λ (s : ℕ) (q : is_picked bs s ≡ true) (c : u ≡ s).
      let both : is_picked bs s ≡ false = subst (λ (t : ℕ). is_picked bs t ≡ false) c p in true≢false (sym q ∙ both) in
      record {
        deeds = λ s q. h.deeds s ∙ not_here o u s (other s q);
        images = λ s q. h.images s ∙ not_here g u s (other s q);
      }

  -- what the events of one stream tell
  of_arrive : (m : State F) (u : ℕ) (f : F) (r : Reply F G) → let none : Option G = None in
      IsOf m (Arrive u f) r u (came m.clock f r) none
  of_arrive m u f r = record { deeds = λ s. refl; images = λ s. sym (none_if G (nat_eq u s)) }

  of_close : (m : State F) (u : ℕ) (r : Reply F G) → let none : Option G = None in
      IsOf m (Close u) r u (shut r) none
  of_close m u r = record { deeds = λ s. refl; images = λ s. sym (none_if G (nat_eq u s)) }

  of_collect : (m : State F) (u : ℕ) (g : G) → IsOf m (Collect u) (Image g) u (Some Taken) (Some g)
  of_collect m u g = record { deeds = λ s. refl; images = λ s. refl }

  of_lease : (m : State F) (w u n g : ℕ) → let none : Option G = None in
      IsOf m (Lease w) (Leased u n g) u (Some (Lent w)) none
  of_lease m w u n g = record { deeds = λ s. refl; images = λ s. sym (none_if G (nat_eq u s)) }

  of_band : (m : State F) (w : ℕ) (l : Held) (r : Reply F G) → slice_get m.workers w ≡ Some (Some l)
      → let none : Option G = None in
      IsOf m (Band w) r l.stream (worked r) none
  of_band m w l r e = record {
    deeds = λ s. ap (λ (h : Option Held). if has_stream s h then worked r else None)
        (held_at_is m.workers w (Some l) e);
    images = λ s. sym (none_if G (nat_eq l.stream s));
  }

  of_settle : (m : State F) (w : ℕ) (l : Held) (r : Reply F G) → slice_get m.workers w ≡ Some (Some l)
      → let none : Option G = None in
      IsOf m (Settle w) r l.stream (settled r) none
  of_settle m w l r e = record {
    deeds = λ s. ap (λ (h : Option Held). if has_stream s h then settled r else None)
        (held_at_is m.workers w (Some l) e);
    images = λ s. sym (none_if G (nat_eq l.stream s));
  }

module _ {F G : Type 0} (measures : StreamSpec → F → Bool → Type 0)
    (is_image : StreamSpec → F → G → Type 0) where
  -- no event, or one with a right reply
  abbrev IsStep : List Bool → (m : State F) → Event F → Reply F G → (k n : State F) → Type 0
  IsStep bs m e r k n = (k ≡ n) × IsUnseen bs m e r
      ⊎ ((d : Event F) × (a : Reply F G) × Allows measures is_image k d a × (after k d a ≡ n)
      × IsSeen bs m e r k d a)

  -- an event that changes one stream
  step_one : (bs : List Bool) (later : List StreamSpec) (m : State F) (s : ℕ) (x y : StreamState F)
      (e d : Event F) (r a : Reply F G) (o : Option (Deed F)) (g : Option G) → slice_get m.streams s ≡ Some x
      → state m.clock m.quantum (slice_set m.streams s y) m.workers ≡ after m e r → IsOf m e r s o g
      → (is_picked bs s ≡ true → slice_get (streams_alone bs later m.streams) (place bs s) ≡ Some x
      → Allows measures is_image (alone bs later m) d a
      × (state m.clock m.quantum (slice_set (streams_alone bs later m.streams) (place bs s) y)
      (map (lease_alone bs) m.workers) ≡ after (alone bs later m) d a)
      × IsOf (alone bs later m) d a (place bs s) o g)
      → IsStep bs m e r (alone bs later m) (alone bs later (after m e r))
  step_one bs later m s x y e d r a o g here to told f =
      elim (true_or (is_picked bs s)) [
        | inl p ↦
            let h = f p (stream_in bs later m.streams s x here p) in
            inr (
              d,
              a,
              h.0,
              sym h.1
                  ∙ state_is m.clock m.quantum _ _ _ _ (put_in bs later m.streams s x y here p) refl
                  ∙ ap (alone bs later) to,
              seen_by bs m (alone bs later m) e d r a s x o g p here told h.2,
            )
        | inr p ↦ inl (
          state_is m.clock m.quantum _ _ _ _ (put_out bs later m.streams s y p) refl ∙ ap (alone bs later) to,
          unseen_by bs m e r s o g p told,
        )
      ]

  -- one that changes a stream and the lease of it
  step_held : (bs : List Bool) (later : List StreamSpec) (m : State F) (w s : ℕ) (x y : StreamState F)
      (h k held : Option Held) (e d : Event F) (r b : Reply F G) (o : Option (Deed F))
      → slice_get m.streams s ≡ Some x → slice_get m.workers w ≡ Some h
      → state m.clock m.quantum (slice_set m.streams s y) (slice_set m.workers w k) ≡ after m e r
      → let none : Option G = None in
      IsOf m e r s o none
      → (is_picked bs s ≡ true → lease_alone bs k ≡ held)
      → (is_picked bs s ≡ false → (lease_alone bs h ≡ None) × (lease_alone bs k ≡ None))
      → (is_picked bs s ≡ true → slice_get (streams_alone bs later m.streams) (place bs s) ≡ Some x
      → slice_get (map (lease_alone bs) m.workers) w ≡ Some (lease_alone bs h)
      → Allows measures is_image (alone bs later m) d b
      × (state m.clock m.quantum (slice_set (streams_alone bs later m.streams) (place bs s) y)
      (slice_set (map (lease_alone bs) m.workers) w held) ≡ after (alone bs later m) d b)
      × IsOf (alone bs later m) d b (place bs s) o none)
      → IsStep bs m e r (alone bs later m) (alone bs later (after m e r))
  step_held bs later m w s x y h k held e d r b o here mine to told new gone f =
      let none : Option G = None in
      elim (true_or (is_picked bs s)) [
        | inl p ↦
            let a = f p (stream_in bs later m.streams s x here p) (worker_in bs m.workers w h mine) in
            inr (
              d,
              b,
              a.0,
              sym a.1
                  ∙ state_is m.clock m.quantum _ _ _ _ (put_in bs later m.streams s x y here p)
                  (hold_in bs m.workers w k held (new p))
                  ∙ ap (alone bs later) to,
              seen_by bs m (alone bs later m) e d r b s x o none p here told a.2,
            )
        | inr p ↦ inl (
          state_is m.clock m.quantum _ _ _ _ (put_out bs later m.streams s y p)
              (hold_out bs m.workers w h k mine (gone p).0 (gone p).1)
              ∙ ap (alone bs later) to,
          unseen_by bs m e r s o none p told,
        )
      ]

  settle_alone : (bs : List Bool) (later : List StreamSpec) (m : State F) (w : ℕ) (r : Reply F G)
      → ((k : Refusal) → r ≡ Refused k → ⊥) → Allows measures is_image m (Settle w) r
      → IsStep bs m (Settle w) r (alone bs later m) (alone bs later (after m (Settle w) r))
  settle_alone bs later m w r other a =
      let mine = held_of (slice_get m.workers w) _ _ _ a (other refusals.NoWorker) (other refusals.NoLease) in
      let l = mine.0 in
      let x = some_and (slice_get m.streams l.stream) _ mine.2 in
      let none : Option Held = None in
      step_held bs later m w l.stream x.0 (did_any x.0 (settled r)) (Some l) none none
      (Settle w) (Settle w) r r (settled r) x.1 mine.1 (after_settle G m w l x.0 r x.2 mine.1 x.1)
      (of_settle m w l r mine.1) (λ p. refl)
      (λ p. (lease_out bs l p, refl))
      (λ p here held.
      let l' = moved (place bs l.stream) l in
      let held' : slice_get (map (lease_alone bs) m.workers) w ≡ Some (Some l') =
      held ∙ ap Some (lease_in bs l p) in (
        held_to (slice_get (map (lease_alone bs) m.workers) w) _ _ _ l' held'
            (and_some (slice_get (streams_alone bs later m.streams) (place bs l.stream)) _ x.0 here x.2),
        after_settle G (alone bs later m) w l' x.0 r x.2 held' here,
        of_settle (alone bs later m) w l' r held',
      ))

  pub steps : (bs : List Bool) (later : List StreamSpec) (m : State F) (e : Event F) (r : Reply F G) → Sound m
      → Allows measures is_image m e r
      → IsStep bs m e r (alone bs (sooner bs (length m.streams) e r later) m) (alone bs later (after m e r))
  steps bs later m (Arrive u f) (Accepted n) h a =
      let x = some_of (slice_get m.streams u) _ _ a (λ q. cc) in
      let r : Reply F G = Accepted n in
      let none : Option G = None in
      step_one bs later m u x.0 (did x.0 (Came m.clock f)) (Arrive u f) (Arrive (place bs u) f) r r
      (Some (Came m.clock f)) none x.1 (after_arrive G m u f r x.0 x.1) (of_arrive m u f r)
      (λ p here. (
        some_to (slice_get (streams_alone bs later m.streams) (place bs u)) _ _ x.0 here x.2,
        after_arrive G (alone bs later m) (place bs u) f r x.0 here,
        of_arrive (alone bs later m) (place bs u) f r,
      ))
  steps bs later m (Arrive u f) r h a =
      inl (
        ap (alone bs later) (state_is m.clock m.quantum _ _ _ _ (quiet_streams (λ t. nat_eq u t) m.streams)
            (sym (map_at_same 0 m.workers))),
        record { deeds = λ s q. none_if (Deed F) (nat_eq u s); images = λ s q. refl },
      )
  steps bs later m (Lease w) (Leased u n g) h a =
      let free = lease_inv F G (slice_get m.workers w) (AllowsLease {F = F} {G = G} m (Leased u n g)) u n g a in
      let x = some_and (slice_get m.streams u) _ free.1.1 in
      let r : Reply F G = Leased u n g in
      let r' : Reply F G = Leased (place bs u) n g in
      let none : Option Held = None in
      step_held bs later m w u x.0 (did x.0 (Lent w)) none (Some (new_lease u n g))
      (Some (new_lease (place bs u) n g)) (Lease w) (Lease w) r r' (Some (Lent w)) x.1 free.0
      (after_lease G m w u n g x.0 free.0 x.1) (of_lease m w u n g)
      (λ p. lease_in bs (new_lease u n g) p) (λ p. (refl, lease_out bs (new_lease u n g) p))
      (λ p here idle. (
        free_to (slice_get (map (lease_alone bs) m.workers) w) _ _ _ idle (
          earliest_in bs later m u x.0 free.1.0 x.1 p,
          and_some (slice_get (streams_alone bs later m.streams) (place bs u)) _ x.0 here x.2,
        ),
        after_lease G (alone bs later m) w (place bs u) n g x.0 idle here,
        of_lease (alone bs later m) w (place bs u) n g,
      ))
  steps bs later m (Lease w) r h a =
      inl (
        ap (alone bs later) (state_is m.clock m.quantum _ _ _ _ (sym (map_at_same 0 m.streams))
            (quiet_workers (λ v. nat_eq w v) m.workers)),
        record { deeds = λ s q. refl; images = λ s q. refl },
      )
  steps bs later m (Band w) Stepped h a =
      let mine = held_of (slice_get m.workers w) _ _ _ a (λ q. cc) (λ q. cc) in
      let l = mine.0 in
      let x = h.leases w l mine.1 in
      let k : Held = record { stream = l.stream; number = l.number; grant = l.grant; used = l.used + 1 } in
      let r : Reply F G = Stepped in
      step_held bs later m w l.stream x.0 (did x.0 Worked) (Some l) (Some k)
      (Some (moved (place bs l.stream) k)) (Band w) (Band w) r r (Some Worked) x.1 mine.1
      (after_band G m w l k x.0 mine.1 x.1 refl) (of_band m w l r mine.1)
      (λ p. lease_in bs k p) (λ p. (lease_out bs l p, lease_out bs k p))
      (λ p here held.
      let l' = moved (place bs l.stream) l in
      let held' : slice_get (map (lease_alone bs) m.workers) w ≡ Some (Some l') =
      held ∙ ap Some (lease_in bs l p) in (
        held_to (slice_get (map (lease_alone bs) m.workers) w) _ _ _ l' held' mine.2,
        after_band G (alone bs later m) w l' (moved (place bs l.stream) k) x.0 held' here refl,
        of_band (alone bs later m) w l' r held',
      ))
  steps bs later m (Band w) r h a =
      inl (
        ap (alone bs later) (state_is m.clock m.quantum _ _ _ _
            (quiet_streams (λ t. has_stream t (held_at m.workers w)) m.streams)
            (quiet_workers (λ v. nat_eq w v) m.workers)),
        record { deeds = λ s q. none_if (Deed F) (has_stream s (held_at m.workers w)); images = λ s q. refl },
      )
  steps bs later m (Settle w) Returned h a = settle_alone bs later m w Returned (λ k e. cc) a
  steps bs later m (Settle w) (Finished n) h a = settle_alone bs later m w (Finished n) (λ k e. cc) a
  steps bs later m (Settle w) r h a =
      inl (
        ap (alone bs later) (state_is m.clock m.quantum _ _ _ _
            (quiet_streams (λ t. has_stream t (held_at m.workers w)) m.streams)
            (quiet_workers (λ v. nat_eq w v) m.workers)),
        record { deeds = λ s q. none_if (Deed F) (has_stream s (held_at m.workers w)); images = λ s q. refl },
      )
  steps bs later m (Tick to) Ticked h a =
      inr (
        Tick to,
        Ticked,
        a,
        sym (after_tick G (alone bs later m) to) ∙ ap (alone bs later) (after_tick G m to),
        record { deeds = λ s q. refl; none = λ t l. refl; images = λ s q. refl },
      )
  steps bs later m (Tick to) r h a =
      inl (
        ap (alone bs later) (state_is m.clock m.quantum _ _ _ _ (sym (map_at_same 0 m.streams))
            (sym (map_at_same 0 m.workers))),
        record { deeds = λ s q. refl; images = λ s q. refl },
      )
  steps bs later m (Close u) Closing h a =
      let x = some_of (slice_get m.streams u) _ _ a (λ q. cc) in
      let r : Reply F G = Closing in
      let none : Option G = None in
      step_one bs later m u x.0 (did x.0 Shut) (Close u) (Close (place bs u)) r r (Some Shut) none
      x.1 (after_close G m u r x.0 x.1) (of_close m u r)
      (λ p here. (
        some_to (slice_get (streams_alone bs later m.streams) (place bs u)) _ _ x.0 here x.2,
        after_close G (alone bs later m) (place bs u) r x.0 here,
        of_close (alone bs later m) (place bs u) r,
      ))
  steps bs later m (Close u) r h a =
      inl (
        ap (alone bs later) (state_is m.clock m.quantum _ _ _ _ (quiet_streams (λ t. nat_eq u t) m.streams)
            (sym (map_at_same 0 m.workers))),
        record { deeds = λ s q. none_if (Deed F) (nat_eq u s); images = λ s q. refl },
      )
  steps bs later m (Collect u) (Image g) h a =
      let x = some_of (slice_get m.streams u) _ _ a (λ q. cc) in
      let r : Reply F G = Image g in
      step_one bs later m u x.0 (did x.0 Taken) (Collect u) (Collect (place bs u)) r r (Some Taken) (Some g)
      x.1 (after_collect G m u r x.0 x.1) (of_collect m u g)
      (λ p here. (
        some_to (slice_get (streams_alone bs later m.streams) (place bs u)) _ _ x.0 here x.2,
        after_collect G (alone bs later m) (place bs u) r x.0 here,
        of_collect (alone bs later m) (place bs u) g,
      ))
  steps bs later m (Collect u) r h a =
      inl (
        ap (alone bs later) (state_is m.clock m.quantum _ _ _ _ (quiet_streams (λ t. nat_eq u t) m.streams)
            (sym (map_at_same 0 m.workers))),
        record { deeds = λ s q. none_if (Deed F) (nat_eq u s); images = λ s q. refl },
      )
  steps bs later m (Admit spec) (Admitted s) h a =
      inl (
        admit_alone bs later m spec ∙ ap (alone bs later) (after_admit G m spec s),
        record { deeds = λ s q. refl; images = λ s q. refl },
      )
  steps bs later m (Admit spec) r h a =
      inl (
        ap (alone bs later) (state_is m.clock m.quantum _ _ _ _ (sym (map_at_same 0 m.streams))
            (sym (map_at_same 0 m.workers))),
        record { deeds = λ s q. refl; images = λ s q. refl },
      )
