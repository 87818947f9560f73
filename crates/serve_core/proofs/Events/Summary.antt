-- The state of a transcript with one more event is what `after` makes of the state before.
use Rattle.std.proofs.Common.{ℕ, zero, suc, ◌+◌, ◌≡◌, ◌≤◌, ◌<◌, List, [], ◌∷◌, ◌++◌, length, Option, Some}
use Rattle.std.proofs.Common.{None, Bool, true, false, nat_eq, nat_lt, replicate, refl, sym, ◌∙◌, ap, arith}
use Rattle.std.proofs.Common.{add-zero, zero-add, ◌⊎◌, inl, inr, le_refl, le_trans, subst, if◌then◌else◌}
use Rattle.serve_core.specs.declared.held.Held.{Held}
use Rattle.cbs_account.specs.Balance.{Balance, opened}
use Rattle.cbs_account.specs.Laws.{unit_count}
use Rattle.cbs_account.specs.Rules.{OwnEvent, Idle, UnitOfWork, after_unit, after_units, after_idle}
use Rattle.cbs_account.specs.Rules.{after_all, cbs}
use Rattle.std.proofs.lemmas.List.{length-replicate}
use Rattle.std.proofs.lemmas.Bool.Decides.{nat_tests}
use Rattle.serve_core.specs.Counts.{Back, Came, Deed, Ended, Lent, Shut, Taken, Worked, accepted}
use Rattle.serve_core.specs.Counts.{clock_after, deed, done, finished, has_stream, held, held_after}
use Rattle.serve_core.specs.Counts.{held_below, history, next_deed, now, own_events, settled, specs, with_deed}
use Rattle.serve_core.specs.Counts.{worked}
use Rattle.serve_core.specs.Events.{Admit, Admitted, Arrive, Band, Close, Collect, Event, Lease, Reply, Settle}
use Rattle.serve_core.specs.Events.{Start, Then, Tick, Transcript, with_admitted}
use Rattle.serve_core.specs.Grants.{cost_of_band}
use Rattle.serve_core.specs.Setup.{Setup, StreamSpec, costs}
use Rattle.serve_core.specs.States.{StreamState, after, did_any, held_at, map_at, new_stream, state_of}
use Rattle.serve_core.specs.States.{stream_of}
use Rattle.serve_core.proofs.Events.Newcomers.{length_admitted}
use Rattle.serve_core.proofs.Events.Steps.{state_is}
use Rattle.serve_core.proofs.Items.Lists.{map_at_push}

with_arrival : {F : Type 0} (x : StreamState F) (n c d : ℕ) (a b : Balance) (xs : List F) → c ≡ d → a ≡ b
    → let v : StreamState F = record x { accepted = n; charged = c; account = a; frames = xs } in
    let w : StreamState F = record x { accepted = n; charged = d; account = b; frames = xs } in v ≡ w
with_arrival x n c d a b xs e f = cc

-- k units after other events
units_after : (k : ℕ) (b : Balance) (es : List OwnEvent)
    → after_all b (replicate k UnitOfWork ++ es) ≡ after_units k (after_all b es)
units_after zero b es = refl
units_after (suc k) b es = ap after_unit (units_after k b es)

with_units : {F : Type 0} (x : StreamState F) (c e d : ℕ) (a b : Balance) → c ≡ e → a ≡ b
    → let v : StreamState F = record x { charged = c; done = d; account = a } in
    let w : StreamState F = record x { charged = e; done = d; account = b } in v ≡ w
with_units x c e d a b f g = cc

-- k units more, and an arrival that is no unit
units_counted : (k : ℕ) (es : List OwnEvent)
    → unit_count (replicate k UnitOfWork ++ es) ≡ unit_count es + k
units_counted zero es = omega arith
units_counted (suc k) es = let before = units_counted k es in omega (arith, before)

none_counted : (b : Bool) (t : ℕ) (es : List OwnEvent)
    → unit_count (if b then Idle t ∷ es else es) ≡ unit_count es
none_counted true t es = refl
none_counted false t es = refl

cbs_if : (q d : ℕ) (b : Bool) (t : ℕ) (es : List OwnEvent)
    → cbs q d (if b then Idle t ∷ es else es) ≡ (if b then after_idle t (cbs q d es) else cbs q d es)
cbs_if q d true t es = refl
cbs_if q d false t es = refl

-- a stream's state after one more deed
pub serving_more : {F : Type 0} (spec : StreamSpec) (h : List (Deed F)) (o : Option (Deed F))
    → stream_of spec (with_deed o h) ≡ did_any (stream_of spec h) o
serving_more spec h None = refl
serving_more spec h (Some (Came t f)) =
    let found_none = nat_eq (accepted h) (finished h) in
    with_arrival (stream_of spec h) (accepted h + 1) _ _ _ _ _
    (none_counted found_none t (own_events (costs spec) h))
    (cbs_if spec.maximum spec.period found_none t (own_events (costs spec) h))
serving_more spec h (Some Worked) =
    let k : ℕ = cost_of_band (done h) (costs spec) in
    with_units (stream_of spec h) _ _ (done h + 1) _ _ (units_counted k (own_events (costs spec) h))
    (units_after k (opened spec.maximum spec.period) (own_events (costs spec) h))
serving_more spec h (Some (Lent w)) = refl
serving_more spec h (Some Back) = refl
serving_more spec h (Some Ended) = refl
serving_more spec h (Some Shut) = refl
serving_more spec h (Some Taken) = refl

-- what holds of the items holds of the mapped lists
pub map_at_map : {X Y : Type 0} (f g : ℕ → X → Y) (k : ℕ → Y → Y) (i : ℕ) (xs : List X)
    → ((t : ℕ) (x : X) → g t x ≡ k t (f t x)) → map_at i g xs ≡ map_at i k (map_at i f xs)
map_at_map f g k i [] h = refl
map_at_map f g k i (x ∷ xs) h = let head = h i x in let tail = map_at_map f g k (suc i) xs h in cc

-- and so it does where they hold of the items that are there
map_at_map_below : {X Y : Type 0} (f g : ℕ → X → Y) (k : ℕ → Y → Y) (i : ℕ) (xs : List X)
    → ((t : ℕ) (x : X) → t < length xs + i → g t x ≡ k t (f t x)) → map_at i g xs ≡ map_at i k (map_at i f xs)
map_at_map_below f g k i [] h = refl
map_at_map_below f g k i (x ∷ xs) h =
    let head = h i x (omega arith) in
    let tail = map_at_map_below f g k (suc i) xs (λ t y l. h t y (omega (arith, l))) in
    cc

held_at_map : {X : Type 0} (f : ℕ → Option Held) (w i : ℕ) (xs : List X) → w < length xs
    → held_at (map_at i (λ v x. f v) xs) w ≡ f (w + i)
held_at_map f w i [] l = absurd (omega arith)
held_at_map f zero i (x ∷ xs) l = rw zero-add refl
held_at_map f (suc w) i (x ∷ xs) l = let place : w + suc i ≡ suc w + i = omega arith in
    subst (λ (n : ℕ). held_at (map_at (suc i) (λ v y. f v) xs) w ≡ f n) place
    (held_at_map f w (suc i) xs (omega arith))

held_at_past : {X : Type 0} (f : ℕ → Option Held) (w i : ℕ) (xs : List X) → length xs ≤ w
    → held_at (map_at i (λ v x. f v) xs) w ≡ None
held_at_past f w i [] l = refl
held_at_past f zero i (x ∷ xs) l = absurd (omega arith)
held_at_past f (suc w) i (x ∷ xs) l = held_at_past f w (suc i) xs (omega arith)

-- which deed it is hangs on what each worker holds alone
pub deed_same : {F G : Type 0} (s t : ℕ) (f g : ℕ → Option Held) (e : Event F) (r : Reply F G)
    → ((w : ℕ) → f w ≡ g w) → deed s t f e r ≡ deed s t g e r
deed_same s t f g (Arrive u x) r h = refl
deed_same s t f g (Lease w) r h = refl
deed_same s t f g (Band w) r h = ap (λ (o : Option Held). if has_stream s o then worked r else None) (h w)
deed_same s t f g (Settle w) r h = ap (λ (o : Option Held). if has_stream s o then settled r else None) (h w)
deed_same s t f g (Tick u) r h = refl
deed_same s t f g (Close u) r h = refl
deed_same s t f g (Collect u) r h = refl
deed_same s t f g (Admit spec) r h = refl

lt_or_le : (a b : ℕ) → (a < b) ⊎ (b ≤ a)
lt_or_le a b = grind arith

below_cases : (b : Bool) (w n : ℕ) (h g : Option Held) → (w < n → b ≡ true) → (n ≤ w → b ≡ false)
    → (w < n → g ≡ h) → (n ≤ w → g ≡ None) → (if b then h else None) ≡ g
below_cases b w n h g t f one two =
    elim (lt_or_le w n) [ inl l ↦ rw (t l) (sym (one l)) | inr l ↦ rw (f l) (sym (two l)) ]

pub below_yes : (w n : ℕ) → w < n → nat_lt w n ≡ true
below_yes w n l = grind (arith, nat_tests)

pub below_no : (w n : ℕ) → n ≤ w → nat_lt w n ≡ false
below_no w n l = grind (arith, nat_tests)

pub held_by_list : {F G : Type 0} (setup : Setup) (p : Transcript F G) (w : ℕ)
    → held_below setup.workers p w ≡ held_at (state_of setup p).workers w
held_by_list setup p w =
    let xs : List ℕ = replicate setup.workers 0 in
    let n : length xs ≡ setup.workers = length-replicate setup.workers 0 in
    below_cases (nat_lt w setup.workers) w setup.workers (held w p) (held_at (state_of setup p).workers w)
    (below_yes w setup.workers) (below_no w setup.workers)
    (λ l. held_at_map (λ v. held v p) w 0 xs (omega arith) ∙ rw add-zero refl)
    (λ l. held_at_past (λ v. held v p) w 0 xs (omega arith))

module _ {F G : Type 0} (setup : Setup) where
  -- nothing happened to a stream before it was there
  pub history_new : (s : ℕ) (p : Transcript F G) → length (specs setup p) ≤ s → history setup s p ≡ []
  history_new s Start l = refl
  history_new s (Then p e r) l =
      let before : length (specs setup p) ≤ s = le_trans (length_admitted (λ spec. spec) e r (specs setup p)) l in
      rw (below_no s (length (specs setup p)) before) (history_new s p before)

  pub next_is : (s : ℕ) (p : Transcript F G) (e : Event F) (r : Reply F G) → s < length (specs setup p)
      → next_deed setup s p e r ≡ deed s (now p) (held_below setup.workers p) e r
  next_is s p e r l = rw (below_yes s (length (specs setup p)) l) refl

  -- a stream that wasn't there before the event has no past yet
  pub next_new : (s : ℕ) (p : Transcript F G) (e : Event F) (r : Reply F G) → length (specs setup p) ≤ s
      → history setup s (Then p e r) ≡ []
  next_new s p e r l = rw (below_no s (length (specs setup p)) l) (history_new s p l)

  streams_more : (p : Transcript F G) (e : Event F) (r : Reply F G)
      → map_at 0 (λ s spec. stream_of spec (history setup s (Then p e r))) (specs setup p)
      ≡ map_at 0 (λ s x. did_any x (deed s (now p) (held_at (state_of setup p).workers) e r))
      (state_of setup p).streams
  streams_more p e r =
      map_at_map_below (λ s spec. stream_of spec (history setup s p))
      (λ s spec. stream_of spec (history setup s (Then p e r)))
      (λ s x. did_any x (deed s (now p) (held_at (state_of setup p).workers) e r)) 0 (specs setup p)
      (λ s spec l.
      ap (λ (o : Option (Deed F)). stream_of spec (with_deed o (history setup s p)))
      (next_is s p e r (omega (arith, l)))
      ∙ serving_more spec (history setup s p) (deed s (now p) (held_below setup.workers p) e r)
      ∙ ap (λ (o : Option (Deed F)). did_any (stream_of spec (history setup s p)) o)
      (deed_same s (now p) (held_below setup.workers p) (held_at (state_of setup p).workers) e r
      (held_by_list setup p)))

  -- the stream that is admitted, if one is
  streams_joined : (p : Transcript F G) (e : Event F) (r : Reply F G)
      → map_at 0 (λ s spec. stream_of spec (history setup s (Then p e r))) (specs setup (Then p e r))
      ≡ with_admitted new_stream e r
      (map_at 0 (λ s spec. stream_of spec (history setup s (Then p e r))) (specs setup p))
  streams_joined p (Admit spec) (Admitted u) =
      let xs = specs setup p in
      let f = λ (s : ℕ) (spec : StreamSpec). stream_of spec (history setup s (Then p (Admit spec) (Admitted u))) in
      map_at_push f 0 (length xs) xs spec (omega arith)
      ∙ ap (λ (h : List (Deed F)). map_at 0 f xs ++ stream_of spec h ∷ [])
      (next_new (length xs) p (Admit spec) (Admitted u) (le_refl (length xs)))
  streams_joined p e r = refl

pub summary_more : (F G : Type 0) (setup : Setup) (p : Transcript F G) (e : Event F) (r : Reply F G)
    → state_of setup (Then p e r) ≡ after (state_of setup p) e r
summary_more F G setup p e r =
    state_is (clock_after (now p) e r) setup.quantum _ _ _ _
    (streams_joined setup p e r
    ∙ ap (λ (ys : List (StreamState F)). with_admitted new_stream e r ys) (streams_more setup p e r))
    (map_at_map {X = ℕ} (λ w none. held w p) (λ w none. held w (Then p e r)) (λ w h. held_after w h e r) 0
    (replicate setup.workers 0) (λ w none. refl))
