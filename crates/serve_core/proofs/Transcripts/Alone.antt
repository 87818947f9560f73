-- Some of a transcript's streams alone, and the streams that aren't released: their pasts are the same there.
use Rattle.std.proofs.Common.{ℕ, zero, suc, ◌≡◌, ◌≤◌, ◌<◌, inl, inr, Bool, true, false, not, le_trans}
use Rattle.std.proofs.Common.{refl, sym, ◌∙◌, ap, subst, arith, List, [], ◌∷◌, ◌++◌, length, map}
use Rattle.std.proofs.Common.{filter, sum_by, replicate, Option, Some, None, slice_get}
use Rattle.std.proofs.Common.{◌+◌, ◌*◌, append-nil, length-append}
use Rattle.std.proofs.lemmas.List.{length-map, length-replicate, map-append}
use Rattle.std.proofs.lemmas.List.Sums.{sum_by-cons}
use Rattle.std.proofs.lemmas.Option.{slice_get_within}
use Rattle.cbs_account.specs.Admission.{share, share_of}
use Rattle.serve_core.specs.declared.held.Held.{Held}
use Rattle.serve_core.specs.Counts.{Deed, delivered, held}
use Rattle.serve_core.specs.Counts.{history, next_deed, specs, with_deed}
use Rattle.serve_core.specs.Events.{Event}
use Rattle.serve_core.specs.Events.{Reply, Start}
use Rattle.serve_core.specs.Events.{Then, Transcript}
use Rattle.serve_core.specs.Leads.{IsLegalFrom, opening_state, state_from}
use Rattle.serve_core.specs.Released.{held_share, is_released, unreleased}
use Rattle.serve_core.specs.Retired.{AreFree, RetireLaw, RetiredLaw, place_of, retired}
use Rattle.serve_core.specs.Rules.{Allows, IsLegal}
use Rattle.serve_core.specs.Setup.{Fits, HasBandwidth, IsWithin, IsWithinLimits, Setup, StreamSpec}
use Rattle.serve_core.specs.Setup.{reservation_of, setup_of}
use Rattle.serve_core.specs.States.{State, StreamState, after, map_at}
use Rattle.serve_core.specs.States.{new_stream, state_of, stream_of}
use Rattle.serve_core.proofs.Events.Kept.{sound}
use Rattle.serve_core.proofs.Events.Releases.{fits_is}
use Rattle.serve_core.proofs.Events.Steps.{state_is}
use Rattle.serve_core.proofs.Events.Newcomers.{length_admitted}
use Rattle.serve_core.proofs.Events.Summary.{below_no, next_new, summary_more}
use Rattle.serve_core.proofs.Items.Lists.{length_map_at}
use Rattle.serve_core.proofs.Items.Picks.{all_from, is_picked, passed_first}
use Rattle.serve_core.proofs.Items.Picks.{picked, picked_at, picked_few, picked_filter, picked_from}
use Rattle.serve_core.proofs.Items.Picks.{picked_map, place}
use Rattle.serve_core.proofs.Items.Picks.{place_le, place_within}
use Rattle.serve_core.proofs.Rules.Bares.{get_map}
use Rattle.serve_core.proofs.Transcripts.Openings.{from_opening, opening_is}
use Rattle.serve_core.proofs.Transcripts.Reached.{few_is}
use Rattle.serve_core.proofs.Transcripts.PickedStates.{alone, lease_alone, sooner, sooner_specs}
use Rattle.serve_core.proofs.Transcripts.PickedSteps.{IsSeen, IsUnseen, delivered_more, given, lt_or_le}
use Rattle.serve_core.proofs.Transcripts.PickedSteps.{next_told, steps, with_image}

module _ {F G : Type 0} (measures : StreamSpec → F → Bool → Type 0)
    (is_image : StreamSpec → F → G → Type 0) where
  -- nobody held anything before the first event
  none_held : (bs : List Bool) (i : ℕ) (xs : List ℕ) → let none : Transcript F G = Start in
      map_at i (λ w zero. held w none) xs ≡ map (lease_alone bs) (map_at i (λ w zero. held w none) xs)
  none_held bs i [] = refl
  none_held bs i (x ∷ xs) =
      ap (λ (hs : List (Option Held)). let h : Option Held = None in h ∷ hs) (none_held bs (suc i) xs)

  all_new : (i : ℕ) (xs : List StreamSpec)
      → map_at i (λ s spec. stream_of {F = F} spec []) xs ≡ map new_stream xs
  all_new i [] = refl
  all_new i (spec ∷ xs) = ap (λ (ys : List (StreamState F)). new_stream spec ∷ ys) (all_new (suc i) xs)

  -- before the first event
  opening_alone : (setup : Setup) (bs : List Bool) (later all : List StreamSpec)
      → all ≡ picked bs setup.streams ++ later
      → let none : Transcript F G = Start in
      opening_state F G (setup_of setup.workers setup.quantum all) ≡ alone bs later (state_of setup none)
  opening_alone setup bs later all h =
      state_is 0 setup.quantum _ _ _ _
      (all_new 0 all ∙ ap (map new_stream) h ∙ map-append new_stream (picked bs setup.streams) later
      ∙ ap (λ (ys : List (StreamState F)). ys ++ map new_stream later)
      (sym (picked_map new_stream bs setup.streams) ∙ ap (picked bs) (sym (all_new 0 setup.streams))))
      (none_held bs 0 (replicate setup.workers 0))

  -- the picked streams have the same pasts in q as in p, those that come later have none yet, and the same
  -- images were given
  record IsSamePast (bs : List Bool) (setup : Setup) (p : Transcript F G) (a : Setup) (q : Transcript F G)
      : Type 0 where
    pasts : (s : ℕ) → is_picked bs s ≡ true → s < length (specs setup p)
        → history a (place bs s) q ≡ history setup s p
    none : (t : ℕ) → place bs (length (specs setup p)) ≤ t → history a t q ≡ []
    images : (s : ℕ) → is_picked bs s ≡ true → delivered (place bs s) q ≡ delivered s p

  past_unseen : (bs : List Bool) (setup a : Setup) (p q : Transcript F G) (e : Event F) (r : Reply F G)
      → IsUnseen bs (state_of setup p) e r → IsSamePast bs setup p a q → IsSamePast bs setup (Then p e r) a q
  past_unseen bs setup a p q e r u before = record {
    pasts = λ s c l. elim (lt_or_le s (length (specs setup p))) [
      | inl k ↦ before.pasts s c k
          ∙ sym (ap (λ (o : Option (Deed F)). with_deed o (history setup s p))
          (next_told setup p e r s k ∙ u.deeds s c))
      | inr k ↦ before.none (place bs s) (place_le bs (length (specs setup p)) s k) ∙ sym (next_new setup s p e r k)
    ];
    none = λ t l. before.none t (le_trans (place_le bs (length (specs setup p)) (length (specs setup (Then p e r)))
        (length_admitted (λ spec. spec) e r (specs setup p))) l);
    images = λ s c. before.images s c
        ∙ sym (delivered_more s p e r ∙ ap (λ (g : Option G). with_image g (delivered s p)) (u.images s c));
  }

  past_seen : (bs : List Bool) (setup a : Setup) (p q : Transcript F G) (e d : Event F) (r b : Reply F G)
      → IsSeen bs (state_of setup p) e r (state_of a q) d b
      → ((s : ℕ) → is_picked bs s ≡ true → s < length (specs setup p) → place bs s < length (specs a q))
      → IsSamePast bs setup p a q → IsSamePast bs setup (Then p e r) a (Then q d b)
  past_seen bs setup a p q e d r b seen within before =
      let count : length (state_of setup p).streams ≡ length (specs setup p) =
      length_map_at (λ s spec. stream_of spec (history setup s p)) 0 (specs setup p) in
      let none_next : (t : ℕ) → place bs (length (specs setup p)) ≤ t → next_deed a t q d b ≡ None = λ t l.
      elim (lt_or_le t (length (specs a q))) [
        | inl k ↦ next_told a q d b t k
            ∙ seen.none t (subst (λ (n : ℕ). place bs n ≤ t) (sym count) l)
        | inr k ↦ rw (below_no t (length (specs a q)) k) refl
      ] in
      let none_yet : (t : ℕ) → place bs (length (specs setup p)) ≤ t → history a t (Then q d b) ≡ [] = λ t l.
      ap (λ (o : Option (Deed F)). with_deed o (history a t q)) (none_next t l) ∙ before.none t l in
      record {
        pasts = λ s c l. elim (lt_or_le s (length (specs setup p))) [
          | inl k ↦
              ap (λ (o : Option (Deed F)). with_deed o (history a (place bs s) q))
              (next_told a q d b (place bs s) (within s c k) ∙ seen.deeds s c ∙ sym (next_told setup p e r s k))
              ∙ ap (λ (h : List (Deed F)). with_deed (next_deed setup s p e r) h) (before.pasts s c k)
          | inr k ↦ none_yet (place bs s) (place_le bs (length (specs setup p)) s k) ∙ sym (next_new setup s p e r k)
        ];
        none = λ t l. none_yet t (le_trans (place_le bs (length (specs setup p)) (length (specs setup (Then p e r)))
            (length_admitted (λ spec. spec) e r (specs setup p))) l);
        images = λ s c. delivered_more (place bs s) q d b
            ∙ ap (λ (g : Option G). with_image g (delivered (place bs s) q)) (seen.images s c)
            ∙ ap (λ (xs : List G). with_image (given s e r) xs) (before.images s c)
            ∙ sym (delivered_more s p e r);
      }

  -- a legal transcript's streams that are picked, alone, from the start on
  abbrev IsAlone : List Bool → List StreamSpec → (all : List StreamSpec) → Setup → Transcript F G → Type 0
  IsAlone bs later all setup p =
      let a = setup_of setup.workers setup.quantum all in
      let o = opening_state F G a in
      (q : Transcript F G) × IsLegalFrom measures is_image o q
      × (state_from o q ≡ alone bs later (state_of setup p)) × IsSamePast bs setup p a q

  follows : (setup : Setup) (bs : List Bool) (p : Transcript F G) (later all : List StreamSpec) → IsWithin setup
      → IsLegal measures is_image setup p → all ≡ picked bs (specs setup p) ++ later
      → IsAlone bs later all setup p
  follows setup bs Start later all v l h = (
    Start,
    tt,
    opening_alone setup bs later all h,
    record { pasts = λ s c l. refl; none = λ t l. refl; images = λ s c. refl },
  )
  follows setup bs (Then p e r) later all v l h =
      let m = state_of setup p in
      let a = setup_of setup.workers setup.quantum all in
      let o = opening_state F G a in
      let more = sooner bs (length m.streams) e r later in
      let count : length m.streams ≡ length (specs setup p) =
      length_map_at (λ s spec. stream_of spec (history setup s p)) 0 (specs setup p) in
      let before = follows setup bs p more all v l.0
      (h ∙ sooner_specs bs (length m.streams) e r (specs setup p) later count) in
      let q = before.0 in
      let last : alone bs later (after m e r) ≡ alone bs later (state_of setup (Then p e r)) =
      ap (alone bs later) (sym (summary_more F G setup p e r)) in
      let here : state_of a q ≡ alone bs more m = from_opening a q ∙ before.2 in
      let within : (s : ℕ) → is_picked bs s ≡ true → s < length (specs setup p) → place bs s < length (specs a q) =
      λ s c k.
      let first = place_within bs m.streams s c (omega (arith, k, count)) in
      let size : length (state_of a q).streams ≡ length (specs a q) =
      length_map_at (λ s spec. stream_of spec (history a s q)) 0 (specs a q) in
      let whole = ap (λ (n : State F). length n.streams) here in
      let parts = length-append (picked bs m.streams) (map new_stream more) in
      omega (arith, first, size, whole, parts) in
      elim (steps measures is_image bs later m e r (sound measures is_image setup p v l.0) l.1) [
        | inl same ↦ (q, before.1, before.2 ∙ same.0 ∙ last, past_unseen bs setup a p q e r same.1 before.3)
        | inr s ↦ (
          Then q s.0 s.1,
          (before.1, subst (λ (n : State F). Allows measures is_image n s.0 s.1) (sym before.2) s.2),
          ap (λ (n : State F). after n s.0 s.1) before.2 ∙ s.3 ∙ last,
          past_seen bs setup a p q e s.0 r s.1
              (subst (λ (n : State F). IsSeen bs m e r n s.0 s.1) (sym here) s.4) within before.3,
        )
      ]

  all_specs : (f : ℕ → StreamSpec → StreamState F) (i : ℕ) (xs : List StreamSpec)
      → ((s : ℕ) (spec : StreamSpec) → (f s spec).spec ≡ spec)
      → map (λ (x : StreamState F). x.spec) (map_at i f xs) ≡ xs
  all_specs f i [] h = refl
  all_specs f i (spec ∷ xs) h = let head = h i spec in let tail = all_specs f (suc i) xs h in cc

  -- each spec of the streams that stay is that of a stream
  spec_from : (m : State F) (t : ℕ) (spec : StreamSpec)
      → slice_get (map (λ (x : StreamState F). x.spec) (unreleased m)) t ≡ Some spec
      → (s : ℕ) × (x : StreamState F) × (slice_get m.streams s ≡ Some x) × (x.spec ≡ spec)
  spec_from m t spec e =
      let test = λ (x : StreamState F). not (is_released m.clock x) in
      let y = get_map (λ (x : StreamState F). x.spec) (unreleased m) t spec e in
      let found = subst (λ (xs : List (StreamState F)). slice_get xs t ≡ Some y.0) (sym (picked_filter test m.streams)) y.1 in
      let s = picked_from (map test m.streams) m.streams t y.0 found in
      (s.0, y.0, s.1, sym y.2)

  -- the shares of the streams that aren't released are those that are held
  share_shown : (t : ℕ) (x : StreamState F) (xs : List (StreamState F)) (b : Bool) → is_released t x ≡ b
      → sum_by share_of (map reservation_of (map (λ (y : StreamState F). y.spec) (filter (λ y. not (is_released t y)) xs)))
      ≡ sum_by (held_share t) xs
      → sum_by share_of (map reservation_of (map (λ (y : StreamState F). y.spec)
      (filter (λ y. not (is_released t y)) (x ∷ xs))))
      ≡ held_share t x + sum_by (held_share t) xs
  share_shown t x xs true e rest = rw e (omega (arith, rest))
  share_shown t x xs false e rest =
      rw e (
      sum_by-cons share_of (reservation_of x.spec)
      (map reservation_of (map (λ (y : StreamState F). y.spec) (filter (λ y. not (is_released t y)) xs)))
      ∙ ap (λ (n : ℕ). share x.spec.maximum x.spec.period + n) rest)

  shares_shown : (t : ℕ) (xs : List (StreamState F))
      → sum_by share_of (map reservation_of (map (λ (y : StreamState F). y.spec) (filter (λ y. not (is_released t y)) xs)))
      ≡ sum_by (held_share t) xs
  shares_shown t [] = refl
  shares_shown t (x ∷ xs) =
      share_shown t x xs (is_released t x) refl (shares_shown t xs) ∙ sym (sum_by-cons (held_share t) x xs)

  free_alone : (bs : List Bool) (ws : List (Option Held)) → AreFree ws → map (lease_alone bs) ws ≡ ws
  free_alone bs [] f = refl
  free_alone bs (None ∷ ws) f =
      ap (λ (hs : List (Option Held)). let h : Option Held = None in h ∷ hs)
      (free_alone bs ws (λ w held e. f (suc w) held e))
  free_alone bs (Some l ∷ ws) f = absurd (f zero l refl)

  pub retired_is : RetiredLaw measures is_image
  retired_is setup p is legal free some =
      let m = state_of setup p in
      let test = λ (x : StreamState F). not (is_released m.clock x) in
      let spec = λ (x : StreamState F). x.spec in
      let bs = map test m.streams in
      let first = specs setup p in
      let of_first = λ (s : ℕ) (one : StreamSpec). stream_of {F = F} one (history setup s p) in
      let count : length m.streams ≡ length first = length_map_at of_first 0 first in
      let picks : picked bs m.streams ≡ unreleased m = picked_filter test m.streams in
      let all = map spec (unreleased m) in
      let same : picked bs first ≡ all =
      ap (picked bs) (sym (all_specs of_first 0 first (λ s one. refl))) ∙ picked_map spec bs m.streams
      ∙ ap (map spec) picks in
      let a = setup_of setup.workers setup.quantum all in
      let f = follows setup bs p [] all is.0 legal (sym (append-nil (picked bs first) ∙ same)) in
      let q = f.0 in
      let h = sound measures is_image setup p is.0 legal in
      let o = opening_is measures is_image a q in
      let whole : sum_by (held_share m.clock) m.streams ≤ 1000000 * length m.workers =
      fits_is measures is_image setup p is.0 is.1 legal in
      let workers : length m.workers ≡ setup.workers =
      length_map_at {X = ℕ} (λ w zero. held w p) 0 (replicate setup.workers 0)
      ∙ length-replicate {A = ℕ} setup.workers 0 in
      let shares = shares_shown m.clock m.streams in
      let fits : Fits a = omega (arith, whole, workers, shares) in
      let size : length all ≡ length (unreleased m) = length-map (unreleased m) spec in
      let fewer = picked_few bs m.streams in
      let chosen = ap length picks in
      let few = (few_is measures is_image m (record {
        setup = setup;
        is_setup = is;
        past = p;
        legal = legal;
        state = refl;
      })).0 in
      let limits = is.0.limits in (
        a,
        q,
        record {
          is_setup = (
            record {
              limits = record {
                some_workers = limits.some_workers;
                workers = limits.workers;
                some_quantum = limits.some_quantum;
                quantum = limits.quantum;
                some_streams = omega (arith, some, size);
                streams = omega (arith, fewer, chosen, few, size);
                each = all_from IsWithinLimits all (λ t one e.
                    let x = spec_from m t one e in
                    subst IsWithinLimits x.3 (h.streams x.0 x.1 x.2).limits);
              };
              bandwidths = all_from HasBandwidth all (λ t one e.
                  let x = spec_from m t one e in
                  subst HasBandwidth x.3 (h.streams x.0 x.1 x.2).bandwidth);
            },
            fits,
          );
          legal = o.1.1 f.1;
          state = o.0 ∙ f.2
              ∙ state_is m.clock m.quantum _ _ _ _ (append-nil (picked bs m.streams) ∙ picks)
              (free_alone bs m.workers free);
          pasts = λ s x e c.
              let number : place bs s ≡ place_of m s = passed_first test m.streams s x e in
              let stays : is_picked bs s ≡ true = picked_at test m.streams s x e ∙ ap not c in
              let within = slice_get_within m.streams s x e in (
                ap (λ (t : ℕ). history a t q) (sym number) ∙ f.3.pasts s stays (omega (arith, within, count)),
                ap (λ (t : ℕ). delivered t q) (sym number) ∙ f.3.images s stays,
              );
        },
      )

  -- so what is reached is reached by them alone
  pub retire_is : RetireLaw measures is_image
  retire_is m r free some =
      let same = r.state in
      let f = retired_is r.setup r.past r.is_setup r.legal
      (subst (λ (n : State F). AreFree n.workers) (sym same) free)
      (subst (λ (n : State F). 1 ≤ length (unreleased n)) (sym same) some) in
      record {
        setup = f.0;
        is_setup = f.2.is_setup;
        past = f.1;
        legal = f.2.legal;
        state = f.2.state ∙ ap retired same;
      }
