-- Some of a state's streams alone: what is ready, and what is admitted, among them.
use Rattle.std.proofs.Common.{ℕ, ◌≡◌, ◌≤◌, inl, inr, Bool, true, false}
use Rattle.std.proofs.Common.{if◌then◌else◌, refl, sym, ◌∙◌, ap, subst, List, [], ◌∷◌, ◌++◌, length, map}
use Rattle.std.proofs.Common.{Option, Some, None, option_map, slice_get, slice_set}
use Rattle.std.proofs.Common.{MatchOption, append_assoc}
use Rattle.std.proofs.lemmas.Option.{slice_get-map}
use Rattle.edf_pool.specs.Earliest.{IsEarliest, IsReady}
use Rattle.serve_core.specs.declared.held.Held.{Held}
use Rattle.serve_core.specs.Events.{Admit, Admitted, Event}
use Rattle.serve_core.specs.Events.{Reply}
use Rattle.serve_core.specs.Events.{with_admitted}
use Rattle.serve_core.specs.Setup.{StreamSpec}
use Rattle.serve_core.specs.States.{State, StreamState, deadlines}
use Rattle.serve_core.specs.States.{new_stream, ready_deadline}
use Rattle.serve_core.proofs.Events.Readiness.{deadline_at}
use Rattle.serve_core.proofs.Events.Steps.{state, state_is}
use Rattle.serve_core.proofs.Items.Picks.{get_either, get_first, is_picked, map_set}
use Rattle.serve_core.proofs.Items.Picks.{picked, picked_from, picked_get}
use Rattle.serve_core.proofs.Items.Picks.{picked_push, picked_set, picked_unpush, picked_unset, place}
use Rattle.serve_core.proofs.Items.Picks.{place_le, set_first, set_same, true_or}
use Rattle.serve_core.proofs.Rules.Bares.{get_map}

-- what is found at a place, where it can be neither none nor free
pub some_of : {X : Type 0} (o : Option X) (P : Type 0) (Q : X → Type 0) → MatchOption o P Q → (P → ⊥)
    → (x : X) × (o ≡ Some x) × Q x
some_of None P Q h f = absurd (f h)
some_of (Some x) P Q h f = (x, refl, h)

pub some_to : {X : Type 0} (o : Option X) (P : Type 0) (Q : X → Type 0) (x : X) → o ≡ Some x → Q x
    → MatchOption o P Q
some_to o P Q x e h = rw e h

pub held_of : (o : Option (Option Held)) (P R : Type 0) (Q : Held → Type 0)
    → MatchOption o P (λ h. MatchOption h R Q) → (P → ⊥) → (R → ⊥) → (l : Held) × (o ≡ Some (Some l)) × Q l
held_of None P R Q h f g = absurd (f h)
held_of (Some None) P R Q h f g = absurd (g h)
held_of (Some (Some l)) P R Q h f g = (l, refl, h)

pub held_to : (o : Option (Option Held)) (P R : Type 0) (Q : Held → Type 0) (l : Held) → o ≡ Some (Some l) → Q l
    → MatchOption o P (λ h. MatchOption h R Q)
held_to o P R Q l e h = rw e h

pub free_to : (o : Option (Option Held)) (P R : Type 0) (Q : Held → Type 0) → o ≡ Some None → R
    → MatchOption o P (λ h. MatchOption h R Q)
free_to o P R Q e h = rw e h

-- a lease with its stream under another number
abbrev pub moved : ℕ → Held → Held
moved s l = record { stream = s; number = l.number; grant = l.grant; used = l.used }

-- what a worker holds, where only the streams that are picked are there
abbrev pub lease_alone : List Bool → Option Held → Option Held
lease_alone bs None = None
lease_alone bs (Some l) = if is_picked bs l.stream then Some (moved (place bs l.stream) l) else None

pub lease_in : (bs : List Bool) (l : Held) → is_picked bs l.stream ≡ true
    → lease_alone bs (Some l) ≡ Some (moved (place bs l.stream) l)
lease_in bs l p = rw p refl

pub lease_out : (bs : List Bool) (l : Held) → is_picked bs l.stream ≡ false → lease_alone bs (Some l) ≡ None
lease_out bs l p = rw p refl

pub worker_in : (bs : List Bool) (ws : List (Option Held)) (w : ℕ) (h : Option Held) → slice_get ws w ≡ Some h
    → slice_get (map (lease_alone bs) ws) w ≡ Some (lease_alone bs h)
worker_in bs ws w h e = slice_get-map (lease_alone bs) ws w ∙ ap (option_map (lease_alone bs)) e

-- a lease of a stream that is picked, and one of another
pub hold_in : (bs : List Bool) (ws : List (Option Held)) (w : ℕ) (h k : Option Held) → lease_alone bs h ≡ k
    → slice_set (map (lease_alone bs) ws) w k ≡ map (lease_alone bs) (slice_set ws w h)
hold_in bs ws w h k e = ap (slice_set (map (lease_alone bs) ws) w) (sym e) ∙ sym (map_set (lease_alone bs) ws w h)

pub hold_out : (bs : List Bool) (ws : List (Option Held)) (w : ℕ) (h k : Option Held) → slice_get ws w ≡ Some h
    → lease_alone bs h ≡ None → lease_alone bs k ≡ None
    → map (lease_alone bs) ws ≡ map (lease_alone bs) (slice_set ws w k)
hold_out bs ws w h k e old new =
    let none : Option Held = None in
    sym (set_same (map (lease_alone bs) ws) w none (worker_in bs ws w h e ∙ ap Some old))
    ∙ hold_in bs ws w k none new

module _ {F : Type 0} where
  -- the streams that are picked alone, and behind them some that had no frame yet
  abbrev pub streams_alone : List Bool → List StreamSpec → List (StreamState F) → List (StreamState F)
  streams_alone bs later xs = picked bs xs ++ map new_stream later

  abbrev pub alone : List Bool → List StreamSpec → State F → State F
  alone bs later m =
      state m.clock m.quantum (streams_alone bs later m.streams) (map (lease_alone bs) m.workers)

  pub stream_in : (bs : List Bool) (later : List StreamSpec) (xs : List (StreamState F)) (s : ℕ) (x : StreamState F)
      → slice_get xs s ≡ Some x → is_picked bs s ≡ true
      → slice_get (streams_alone bs later xs) (place bs s) ≡ Some x
  stream_in bs later xs s x e p =
      get_first (picked bs xs) (map new_stream later) (place bs s) x (picked_get bs xs s x e p)

  pub put_in : (bs : List Bool) (later : List StreamSpec) (xs : List (StreamState F)) (s : ℕ) (x y : StreamState F)
      → slice_get xs s ≡ Some x → is_picked bs s ≡ true
      → slice_set (streams_alone bs later xs) (place bs s) y ≡ streams_alone bs later (slice_set xs s y)
  put_in bs later xs s x y e p =
      set_first (picked bs xs) (map new_stream later) (place bs s) x y (picked_get bs xs s x e p)
      ∙ ap (λ (ys : List (StreamState F)). ys ++ map new_stream later) (sym (picked_set bs xs s y p))

  pub put_out : (bs : List Bool) (later : List StreamSpec) (xs : List (StreamState F)) (s : ℕ) (y : StreamState F)
      → is_picked bs s ≡ false → streams_alone bs later xs ≡ streams_alone bs later (slice_set xs s y)
  put_out bs later xs s y p =
      ap (λ (ys : List (StreamState F)). ys ++ map new_stream later) (sym (picked_unset bs xs s y p))

  -- a stream that is ready there is ready where all are
  ready_from : (bs : List Bool) (later : List StreamSpec) (m : State F) (t d : ℕ)
      → IsReady (deadlines (alone bs later m)) t d
      → (s : ℕ) × IsReady (deadlines m) s d × (place bs s ≡ t)
  ready_from bs later m t d r =
      let y = get_map ready_deadline (streams_alone bs later m.streams) t (Some d) r in
      elim (get_either (picked bs m.streams) (map new_stream later) t y.0 y.1) [
        | inl a ↦
            let s = picked_from bs m.streams t y.0 a in
            (s.0, deadline_at m s.0 y.0 s.1 ∙ ap Some (sym y.2), s.3)
        | inr b ↦ absurd (
            let new = get_map new_stream later b.0 y.0 b.1 in
            let none : Some d ≡ None = y.2 ∙ ap ready_deadline new.2 in
            cc)
      ]

  -- so the earliest of all is the earliest of those that are picked, if it is
  pub earliest_in : (bs : List Bool) (later : List StreamSpec) (m : State F) (s : ℕ) (x : StreamState F)
      → IsEarliest (deadlines m) s → slice_get m.streams s ≡ Some x → is_picked bs s ≡ true
      → IsEarliest (deadlines (alone bs later m)) (place bs s)
  earliest_in bs later m s x h e p = record {
    deadline = h.deadline;
    ready = deadline_at (alone bs later m) (place bs s) x (stream_in bs later m.streams s x e p)
        ∙ (sym (deadline_at m s x e) ∙ h.ready);
    earliest = λ t d r. let f = ready_from bs later m t d r in h.earliest f.0 d f.1;
    lowest = λ t r.
        let f = ready_from bs later m t h.deadline r in
        subst (λ (k : ℕ). place bs s ≤ k) f.2 (place_le bs s f.0 (h.lowest f.0 f.1));
  }

-- one more behind all others
push_later : {X : Type 0} (bs : List Bool) (xs : List X) (x : X) (ys : List X) → is_picked bs (length xs) ≡ true
    → picked bs xs ++ x ∷ ys ≡ picked bs (xs ++ x ∷ []) ++ ys
push_later bs xs x ys p =
    sym (ap (λ zs. zs ++ ys) (picked_push bs xs x p) ∙ append_assoc (picked bs xs) (x ∷ []) ys)

unpush_later : {X : Type 0} (bs : List Bool) (xs : List X) (x : X) (ys : List X)
    → is_picked bs (length xs) ≡ false → picked bs xs ++ ys ≡ picked bs (xs ++ x ∷ []) ++ ys
unpush_later bs xs x ys p = ap (λ zs. zs ++ ys) (sym (picked_unpush bs xs x p))

module _ {F : Type 0} where
  -- a stream that is admitted, picked or not
  pub admit_alone : (bs : List Bool) (later : List StreamSpec) (m : State F) (spec : StreamSpec)
      → alone bs (if is_picked bs (length m.streams) then spec ∷ later else later) m
      ≡ alone bs later (state m.clock m.quantum (m.streams ++ new_stream spec ∷ []) m.workers)
  admit_alone bs later m spec =
      elim (true_or (is_picked bs (length m.streams))) [
        | inl p ↦ rw p (state_is m.clock m.quantum _ _ _ _
            (push_later bs m.streams (new_stream spec) (map new_stream later) p) refl)
        | inr p ↦ rw p (state_is m.clock m.quantum _ _ _ _
            (unpush_later bs m.streams (new_stream spec) (map new_stream later) p) refl)
      ]

module _ {F G : Type 0} where
  -- the streams that come later, as they are before an event: with the one that it admits, if that is picked
  abbrev pub sooner : List Bool → ℕ → Event F → Reply F G → List StreamSpec → List StreamSpec
  sooner bs n (Admit spec) (Admitted s) later = if is_picked bs n then spec ∷ later else later
  sooner bs n e r later = later

  -- the specs are the same then
  pub sooner_specs : (bs : List Bool) (n : ℕ) (e : Event F) (r : Reply F G) (xs later : List StreamSpec)
      → n ≡ length xs
      → picked bs (with_admitted (λ spec. spec) e r xs) ++ later ≡ picked bs xs ++ sooner bs n e r later
  sooner_specs bs n (Admit spec) (Admitted s) xs later c =
      elim (true_or (is_picked bs n)) [
        | inl p ↦ rw p (sym (push_later bs xs spec later (subst (λ (k : ℕ). is_picked bs k ≡ true) c p)))
        | inr p ↦ rw p (sym (unpush_later bs xs spec later (subst (λ (k : ℕ). is_picked bs k ≡ false) c p)))
      ]
  sooner_specs bs n e r xs later c = refl
