-- A stream that is released stays so, and the shares of the others fit.
use Rattle.std.proofs.Common.{ℕ, suc, ◌+◌, ◌*◌, ◌≡◌, ◌≤◌, Bool, true, false, ◌&&◌, nat_eq, nat_le}
use Rattle.std.proofs.Common.{if◌then◌else◌, refl, sym, ◌∙◌, ap, subst, arith, List, [], ◌∷◌, ◌++◌, length, map}
use Rattle.std.proofs.Common.{replicate, sum_by, Option, Some, None, slice_get, IsSomeAnd, IsTrue}
use Rattle.std.proofs.lemmas.Bool.Decides.{nat_tests}
use Rattle.std.proofs.lemmas.List.{length-replicate}
use Rattle.std.proofs.lemmas.List.Sums.{sum_by-cons, sum_by_push}
use Rattle.cbs_account.specs.Admission.{share, share_of}
use Rattle.serve_core.specs.Counts.{Back, Came, Deed, Ended, Lent, Shut, Taken, Worked, clock_after, deed, held}
use Rattle.serve_core.specs.Counts.{held_after, now}
use Rattle.serve_core.specs.Events.{Admit, Admitted, Event, Reply, Start, Then, Transcript, joined}
use Rattle.serve_core.specs.Laws.{FitsFromLaw, FitsLaw, ReleasedLaw}
use Rattle.serve_core.specs.Leads.{IsLegalFrom, state_from}
use Rattle.serve_core.specs.Released.{StillFits, held_share, is_released}
use Rattle.serve_core.specs.Rules.{Allows, IsLegal}
use Rattle.serve_core.specs.Setup.{Fits, IsWithin, Setup, StreamSpec, reservation_of}
use Rattle.serve_core.specs.Sound.{IsSound, Sound}
use Rattle.serve_core.specs.States.{State, StreamState, after, did, did_any, held_at, map_at, new_stream}
use Rattle.serve_core.specs.States.{state_of}
use Rattle.serve_core.proofs.Events.Changes.{after_admit}
use Rattle.serve_core.proofs.Events.Kept.{get_after, rises, sound}
use Rattle.serve_core.proofs.Events.Soundness.{can}
use Rattle.serve_core.proofs.Events.Streams.{CanAny}
use Rattle.serve_core.proofs.Events.Summary.{summary_more}
use Rattle.serve_core.proofs.Events.Turns.{tested_eq}
use Rattle.serve_core.proofs.Items.Lists.{length_map_at}
use Rattle.serve_core.proofs.Items.Options.{and_some, some_and}
use Rattle.serve_core.proofs.Items.Sums.{sum_changed}
use Rattle.serve_core.proofs.Transcripts.Openings.{legal_sound}

four : (a b c d : Bool) → (a && (b && (c && d))) ≡ true → (a ≡ true) × (b ≡ true) × (c ≡ true) × (d ≡ true)
four true true true true h = (refl, refl, refl, refl)
four true true true false h = absurd (cc)
four true true false d h = absurd (cc)
four true false c d h = absurd (cc)
four false b c d h = absurd (cc)

tested_le : (a b : ℕ) → nat_le a b ≡ true → a ≤ b
tested_le a b h = grind (arith, nat_tests)

le_test : (a b : ℕ) → a ≤ b → nat_le a b ≡ true
le_test a b h = grind (arith, nat_tests)

eq_test : (a b : ℕ) → a ≡ b → nat_eq a b ≡ true
eq_test a b h = grind (arith, nat_tests)

-- who held nothing holds nothing
share_by : (b c : Bool) (n m : ℕ) → n ≡ m → (b ≡ true → c ≡ true) → (if c then 0 else n) ≤ (if b then 0 else m)
share_by true c n m e h = let y : c ≡ true = h refl in rw y (omega arith)
share_by false true n m e h = omega arith
share_by false false n m e h = omega (arith, e)

module _ {F : Type 0} where
  abbrev pub Facts : ℕ → StreamState F → Type 0
  Facts t x = (x.is_closed ≡ true) × (x.accepted ≡ x.finished) × (x.finished ≡ x.collected)
      × (x.account.deadline ≤ t)

  pub released_facts : (t : ℕ) (x : StreamState F) → is_released t x ≡ true → Facts t x
  released_facts t x h =
      let all = four x.is_closed (nat_eq x.accepted x.finished) (nat_eq x.finished x.collected)
      (nat_le x.account.deadline t) h in (
        all.0,
        tested_eq x.accepted x.finished all.1,
        tested_eq x.finished x.collected all.2,
        tested_le x.account.deadline t all.3,
      )

  released_test : (t : ℕ) (x : StreamState F) → Facts t x → is_released t x ≡ true
  released_test t x h =
      rw (
        h.0,
        eq_test x.accepted x.finished h.1,
        eq_test x.finished x.collected h.2,
        le_test x.account.deadline t h.3,
      ) refl

  -- nothing but time and another close can come to a stream that is released
  pub released_did : (t u : ℕ) (x : StreamState F) (o : Option (Deed F)) → t ≤ u → IsSound t x → CanAny t x o
      → is_released t x ≡ true → is_released u (did_any x o) ≡ true
  released_did t u x None l h c r =
      let f = released_facts t x r in released_test u x (f.0, f.1, f.2, omega (arith, f.3))
  released_did t u x (Some (Came m k)) l h c r =
      absurd (let f = released_facts t x r in let shut = f.0 in let unshut = c.1 in cc)
  released_did t u x (Some Worked) l h c r =
      absurd (let f = released_facts t x r in omega (arith, f.1, h.finished, c.0))
  released_did t u x (Some (Lent w)) l h c r =
      absurd (let f = released_facts t x r in omega (arith, f.1, c.0))
  released_did t u x (Some Back) l h c r =
      absurd (let f = released_facts t x r in omega (arith, f.1, h.finished, c.0))
  released_did t u x (Some Ended) l h c r =
      absurd (let f = released_facts t x r in omega (arith, f.1, h.finished, c.0))
  released_did t u x (Some Shut) l h c r =
      let f = released_facts t x r in released_test u (did x Shut) (refl, f.1, f.2, omega (arith, f.3))
  released_did t u x (Some Taken) l h c r =
      absurd (let f = released_facts t x r in omega (arith, f.2, c))

  -- and its deadline stays
  pub released_due : (t : ℕ) (x : StreamState F) (o : Option (Deed F)) → IsSound t x → CanAny t x o
      → is_released t x ≡ true → (did_any x o).account.deadline ≡ x.account.deadline
  released_due t x None h c r = refl
  released_due t x (Some (Came m k)) h c r =
      absurd (let f = released_facts t x r in let shut = f.0 in let unshut = c.1 in cc)
  released_due t x (Some Worked) h c r =
      absurd (let f = released_facts t x r in omega (arith, f.1, h.finished, c.0))
  released_due t x (Some (Lent w)) h c r = refl
  released_due t x (Some Back) h c r = refl
  released_due t x (Some Ended) h c r = refl
  released_due t x (Some Shut) h c r = refl
  released_due t x (Some Taken) h c r = refl

  pub same_spec : (x : StreamState F) (o : Option (Deed F)) → (did_any x o).spec ≡ x.spec
  same_spec x None = refl
  same_spec x (Some (Came m k)) = refl
  same_spec x (Some Worked) = refl
  same_spec x (Some (Lent w)) = refl
  same_spec x (Some Back) = refl
  same_spec x (Some Ended) = refl
  same_spec x (Some Shut) = refl
  same_spec x (Some Taken) = refl

  share_less : (t u : ℕ) (x : StreamState F) (o : Option (Deed F)) → t ≤ u → IsSound t x → CanAny t x o
      → held_share u (did_any x o) ≤ held_share t x
  share_less t u x o l h c =
      share_by (is_released t x) (is_released u (did_any x o))
      (share (did_any x o).spec.maximum (did_any x o).spec.period) (share x.spec.maximum x.spec.period)
      (ap (λ (spec : StreamSpec). share spec.maximum spec.period) (same_spec x o)) (released_did t u x o l h c)

opened_shares : (F : Type 0) (i : ℕ) (xs : List StreamSpec)
    → sum_by (held_share 0) (map_at i (λ s spec. new_stream {F = F} spec) xs)
    ≡ sum_by share_of (map reservation_of xs)
opened_shares F i [] = refl
opened_shares F i (spec ∷ xs) =
    let rest = opened_shares F (suc i) xs in
    rw (
      sum_by-cons (held_share 0) (new_stream {F = F} spec) (map_at (suc i) (λ s spec. new_stream {F = F} spec) xs),
      sum_by-cons share_of (reservation_of spec) (map reservation_of xs),
    ) (ap (λ (n : ℕ). share spec.maximum spec.period + n) rest)

module _ {F G : Type 0} (measures : StreamSpec → F → Bool → Type 0)
    (is_image : StreamSpec → F → G → Type 0) where
  -- an event that admits no stream
  quiet_fits : (m : State F) (e : Event F) (r : Reply F G) → Sound m → Allows measures is_image m e r
      → StillFits m
      → sum_by (held_share (clock_after m.clock e r))
      (map_at 0 (λ s x. did_any x (deed s m.clock (held_at m.workers) e r)) m.streams)
      ≤ 1000000 * length (map_at 0 (λ w h. held_after w h e r) m.workers)
  quiet_fits m e r h a f =
      let t = clock_after m.clock e r in
      let later = (rises measures is_image m e r h.clock a).0 in
      let less = sum_changed (held_share m.clock) (held_share t)
      (λ s x. did_any x (deed s m.clock (held_at m.workers) e r)) 0 m.streams
      (λ s x k.
      let same : s ≡ s + 0 = omega arith in
      subst (λ (n : ℕ). held_share t (did_any x (deed n m.clock (held_at m.workers) e r)) ≤ held_share m.clock x)
      same
      (share_less m.clock t x (deed s m.clock (held_at m.workers) e r) later (h.streams s x k)
      (can measures is_image m e r s x h a k))) in
      let whole : sum_by (held_share m.clock) m.streams ≤ 1000000 * length m.workers = f in
      let count = length_map_at (λ w h. held_after w h e r) 0 m.workers in
      rw count (omega (arith, less, whole))

  -- one stream more, which was found to fit
  admitted_fits : (m : State F) (spec : StreamSpec) (s : ℕ) → Allows measures is_image m (Admit spec) (Admitted s)
      → let r : Reply F G = Admitted s in StillFits (after m (Admit spec) r)
  admitted_fits m spec s a =
      let fits : sum_by (held_share m.clock) m.streams + share spec.maximum spec.period
      ≤ 1000000 * length m.workers = a.0.fits in
      let more : sum_by (held_share m.clock) (m.streams ++ new_stream spec ∷ [])
      ≡ sum_by (held_share m.clock) m.streams + share spec.maximum spec.period =
      sum_by_push (held_share m.clock) m.streams (new_stream spec) in
      let all : sum_by (held_share m.clock) (m.streams ++ new_stream spec ∷ []) ≤ 1000000 * length m.workers =
      rw more fits in
      subst StillFits (after_admit G m spec s) all

  pub fits_step : (m : State F) (e : Event F) (r : Reply F G) → Sound m → Allows measures is_image m e r
      → StillFits m → StillFits (after m e r)
  fits_step m (Admit spec) (Admitted s) h a f = admitted_fits m spec s a
  fits_step m e r h a f = quiet_fits m e r h a f

  pub fits_opening : (setup : Setup) → Fits setup → StillFits (state_of setup (let p : Transcript F G = Start in p))
  fits_opening setup f =
      let shares = opened_shares F 0 setup.streams in
      let none : Transcript F G = Start in
      let count : length (map_at {X = ℕ} 0 (λ w zero. held w none) (replicate setup.workers 0)) ≡ setup.workers =
      length_map_at {X = ℕ} (λ w zero. held w none) 0 (replicate setup.workers 0)
      ∙ length-replicate setup.workers 0 in
      rw (shares, count) f

  pub fits_is : FitsLaw measures is_image
  fits_is setup Start v f l = fits_opening setup f
  fits_is setup (Then p e r) v f l =
      subst StillFits (sym (summary_more F G setup p e r))
      (fits_step (state_of setup p) e r (sound measures is_image setup p v l.0) l.1 (fits_is setup p v f l.0))

  legal_fits : (m : State F) (p : Transcript F G) → Sound m → StillFits m → IsLegalFrom measures is_image m p
      → StillFits (state_from m p)
  legal_fits m Start h f l = f
  legal_fits m (Then p e r) h f l =
      fits_step (state_from m p) e r (legal_sound measures is_image m p h l.0) l.1 (legal_fits m p h f l.0)

  pub fits_from : FitsFromLaw measures is_image
  fits_from m n p h f l = subst StillFits l.1 (legal_fits m p h f l.0)

  -- a stream is there at the end of a transcript, released
  abbrev IsReleasedAt : Setup → Transcript F G → ℕ → Type 0
  IsReleasedAt setup p s =
      IsSomeAnd (slice_get (state_of setup p).streams s) (λ y. IsTrue (is_released (now p) y))

  released_on : (setup : Setup) (q later : Transcript F G) (s : ℕ) → IsWithin setup
      → IsLegal measures is_image setup (joined q later) → IsReleasedAt setup q s
      → IsReleasedAt setup (joined q later) s
  released_on setup q Start s v l i = i
  released_on setup q (Then p e r) s v l i =
      let whole : Transcript F G = joined q p in
      let m = state_of setup whole in
      let x = some_and (slice_get m.streams s) _ (released_on setup q p s v l.0 i) in
      let h = sound measures is_image setup whole v l.0 in
      let d = deed s m.clock (held_at m.workers) e r in
      subst (λ (n : State F). IsSomeAnd (slice_get n.streams s) (λ y. IsTrue (is_released n.clock y)))
      (sym (summary_more F G setup whole e r))
      (and_some (slice_get (after m e r).streams s) _ (did_any x.0 d) (get_after m e r s x.0 x.1)
      (released_did m.clock (clock_after m.clock e r) x.0 d (rises measures is_image m e r h.clock l.1).0
      (h.streams s x.0 x.1) (can measures is_image m e r s x.0 h l.1 x.1) x.2))

  pub released_is : ReleasedLaw measures is_image
  released_is setup p q s x v l b e h =
      subst (λ (p : Transcript F G). IsReleasedAt setup p s) (sym b.1)
      (released_on setup q b.0 s v (subst (IsLegal measures is_image setup) b.1 l)
      (and_some (slice_get (state_of setup q).streams s) _ x e h))
