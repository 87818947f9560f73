-- Forgetting the frames of a legal transcript.
use Rattle.std.proofs.Common.{ℕ, zero, suc, ◌≡◌, ◌⊎◌, inl, inr, Bool, true, false, nat_eq, nat_lt}
use Rattle.std.proofs.Common.{if◌then◌else◌, refl, sym, ◌∙◌, ap, subst, List, [], ◌∷◌, map, Option, Some}
use Rattle.std.proofs.Common.{None, option_map, slice_get, MatchOption, MatchBool, IsSomeAnd, length, sum_by}
use Rattle.std.proofs.Common.{◌+◌}
use Rattle.std.specs.Prelude.{⊤}
use Rattle.std.proofs.lemmas.List.{map_push, drop-map, length-map}
use Rattle.std.proofs.lemmas.List.Sums.{sum_by-cons}
use Rattle.cbs_account.specs.Admission.{Load}
use Rattle.std.proofs.lemmas.Option.{slice_get-map}
use Rattle.cbs_account.specs.declared.limits.TheConstants.{LAST_MOMENT}
use Rattle.edf_pool.specs.Earliest.{IsEarliest, NoneReady}
use Rattle.serve_core.specs.declared.refusal.Refusal.{Refusal}
use Rattle.serve_core.specs.declared.refusal.Refusal.TheVariants as refusals
use Rattle.serve_core.specs.declared.held.Held.{Held}
use Rattle.serve_core.specs.Bare.{BareFromLaw, BareLaw, Blank, bare, blank, bare_event, bare_reply}
use Rattle.serve_core.specs.Bare.{bare_state, bare_stream, is_any_image, measures_any}
use Rattle.serve_core.specs.Counts.{Back, Came, Deed, Ended, Lent, Shut, Taken, Worked, came, clock_after}
use Rattle.serve_core.specs.Counts.{deed, has_stream, held_after, held_after_band, held_after_lease}
use Rattle.serve_core.specs.Counts.{held_after_settle, lent, settled, shut, taken, worked}
use Rattle.serve_core.specs.Events.{Accepted, Admit, Admitted, Arrive, Band, Close, Closing, Collect, Event}
use Rattle.serve_core.specs.Events.{Finished, GivenBack, Image, Lease, Leased, Refused, Reply, Returned, Settle}
use Rattle.serve_core.specs.Events.{SpecBack, Start, Stepped, Then, Tick, Ticked, Transcript, with_admitted}
use Rattle.serve_core.specs.Leads.{IsLegalFrom, state_from}
use Rattle.serve_core.specs.Released.{held_load, held_share}
use Rattle.serve_core.specs.Rules.{Allows, AllowsAdmit, AllowsCollect, AllowsLease, arrival_refusal, lack_reply}
use Rattle.serve_core.specs.Rules.{settle_reply}
use Rattle.serve_core.specs.Setup.{Setup, StreamSpec, steps}
use Rattle.serve_core.specs.States.{State, StreamState, after, did, did_any, held_at, map_at, new_stream}
use Rattle.serve_core.specs.States.{ready_deadline, state_of, stream_of}
use Rattle.serve_core.proofs.Events.Summary.{summary_more}
use Rattle.serve_core.proofs.Items.Options.{some_and, and_some}

map_at_of : {X Y : Type 0} (k : X → Y) (f : ℕ → Y → Y) (g : ℕ → X → X) (i : ℕ) (xs : List X)
    → ((s : ℕ) (x : X) → f s (k x) ≡ k (g s x)) → map_at i f (map k xs) ≡ map k (map_at i g xs)
map_at_of k f g i [] h = refl
map_at_of k f g i (x ∷ xs) h = let head = h i x in let tail = map_at_of k f g (suc i) xs h in cc

map_at_like : {X : Type 0} (f g : ℕ → X → X) (i : ℕ) (xs : List X) → ((s : ℕ) (x : X) → f s x ≡ g s x)
    → map_at i f xs ≡ map_at i g xs
map_at_like f g i [] h = refl
map_at_like f g i (x ∷ xs) h = let head = h i x in let tail = map_at_like f g (suc i) xs h in cc

map_at_made : {X Y Z : Type 0} (k : Y → Z) (f : ℕ → X → Y) (g : ℕ → X → Z) (i : ℕ) (xs : List X)
    → ((s : ℕ) (x : X) → g s x ≡ k (f s x)) → map_at i g xs ≡ map k (map_at i f xs)
map_at_made k f g i [] h = refl
map_at_made k f g i (x ∷ xs) h = let head = h i x in let tail = map_at_made k f g (suc i) xs h in cc

pub get_map : {X Y : Type 0} (k : X → Y) (xs : List X) (s : ℕ) (y : Y) → slice_get (map k xs) s ≡ Some y
    → (x : X) × (slice_get xs s ≡ Some x) × (y ≡ k x)
get_map k [] s y e = absurd (cc)
get_map k (x ∷ xs) zero y e = (x, refl, cc)
get_map k (x ∷ xs) (suc s) y e = get_map k xs s y e

state_same : {F : Type 0} (t u q : ℕ) (xs ys : List (StreamState F)) (vs ws : List (Option Held)) → t ≡ u
    → xs ≡ ys → vs ≡ ws → let m : State F = record { clock = t; quantum = q; streams = xs; workers = vs } in
    let n : State F = record { clock = u; quantum = q; streams = ys; workers = ws } in m ≡ n
state_same t u q xs ys vs ws a b c = cc

module _ {F : Type 0} where
  abbrev pub bare_deed : Deed F → Deed Blank
  bare_deed (Came t f) = Came t tt
  bare_deed Worked = Worked
  bare_deed (Lent w) = Lent w
  bare_deed Back = Back
  bare_deed Ended = Ended
  bare_deed Shut = Shut
  bare_deed Taken = Taken

  if_deed : (b : Bool) (o : Option (Deed F)) (u : Option (Deed Blank)) → u ≡ option_map bare_deed o
      → (if b then u else None) ≡ option_map bare_deed (if b then o else None)
  if_deed true o u e = e
  if_deed false o u e = refl

  did_bare : (x : StreamState F) (o : Option (Deed F))
      → did_any (bare_stream x) (option_map bare_deed o) ≡ bare_stream (did_any x o)
  did_bare x None = refl
  did_bare x (Some (Came t f)) =
      ap (λ (xs : List Blank). record (did (bare_stream x) (Came t tt)) { frames = xs })
      (sym (map_push (λ f. let b : Blank = tt in b) x.frames f))
  did_bare x (Some Worked) = refl
  did_bare x (Some (Lent w)) = refl
  did_bare x (Some Back) = refl
  did_bare x (Some Ended) = refl
  did_bare x (Some Shut) = refl
  did_bare x (Some Taken) =
      ap (λ (xs : List Blank). record (did (bare_stream x) Taken) { frames = xs })
      (drop-map (λ f. let b : Blank = tt in b) 1 x.frames)

  match_bare : (o : Option (StreamState F)) (P R : Type 0) (Q : StreamState F → Type 0)
      (S : StreamState Blank → Type 0) → (P → R) → ((x : StreamState F) → Q x → S (bare_stream x))
      → MatchOption o P Q → MatchOption (option_map bare_stream o) R S
  match_bare None P R Q S f g h = f h
  match_bare (Some x) P R Q S f g h = g x h

  -- the same streams are ready, with the same deadlines
  deadlines_bare : (xs : List (StreamState F))
      → map ready_deadline (map bare_stream xs) ≡ map ready_deadline xs
  deadlines_bare [] = refl
  deadlines_bare (x ∷ xs) = ap (λ (ds : List (Option ℕ)). ready_deadline x ∷ ds) (deadlines_bare xs)

module _ {F : Type 0} where
  -- the same shares are held
  shares_bare : (t : ℕ) (xs : List (StreamState F))
      → sum_by (held_share t) (map bare_stream xs) ≡ sum_by (held_share t) xs
  shares_bare t [] = refl
  shares_bare t (x ∷ xs) =
      sum_by-cons (held_share t) (bare_stream x) (map bare_stream xs)
      ∙ ap (λ (n : ℕ). held_share t x + n) (shares_bare t xs)
      ∙ sym (sum_by-cons (held_share t) x xs)

  load_bare : (m : State F) → held_load m ≡ held_load (bare_state m)
  load_bare m =
      ap (λ (n : ℕ). let load : Load = record { workers = length m.workers; shares = n } in load)
      (sym (shares_bare m.clock m.streams))

if_lent : (F : Type 0) (b : Bool) (w : ℕ) → let o : Option (Deed F) = if b then Some (Lent w) else None in
    let u : Option (Deed Blank) = if b then Some (Lent w) else None in u ≡ option_map bare_deed o
if_lent F true w = refl
if_lent F false w = refl

module _ {F G : Type 0} where
  came_bare : (t : ℕ) (f : F) (r : Reply F G)
      → came t (blank f) (bare_reply r) ≡ option_map bare_deed (came t f r)
  came_bare t f (Accepted n) = refl
  came_bare t f r = refl

  lent_bare : (s w : ℕ) (r : Reply F G) → lent {F = Blank} {G = Blank} s w (bare_reply r)
      ≡ option_map bare_deed (lent s w r)
  lent_bare s w (Leased u n g) = if_lent F (nat_eq u s) w
  lent_bare s w r = refl

  worked_bare : (r : Reply F G) → worked {F = Blank} {G = Blank} (bare_reply r) ≡ option_map bare_deed
      (worked r)
  worked_bare Stepped = refl
  worked_bare r = refl

  settled_bare : (r : Reply F G) → settled {F = Blank} {G = Blank} (bare_reply r) ≡ option_map bare_deed
      (settled r)
  settled_bare Returned = refl
  settled_bare (Finished n) = refl
  settled_bare r = refl

  shut_bare : (r : Reply F G) → shut {F = Blank} {G = Blank} (bare_reply r) ≡ option_map bare_deed (shut r)
  shut_bare Closing = refl
  shut_bare r = refl

  taken_bare : (r : Reply F G) → taken {F = Blank} {G = Blank} (bare_reply r) ≡ option_map bare_deed (taken r)
  taken_bare (Image g) = refl
  taken_bare r = refl

  deed_bare : (s t : ℕ) (ws : ℕ → Option Held) (e : Event F) (r : Reply F G)
      → deed s t ws (bare_event e) (bare_reply r) ≡ option_map bare_deed (deed s t ws e r)
  deed_bare s t ws (Arrive u f) r =
      if_deed (nat_eq u s) (came t f r) (came t (blank f) (bare_reply r)) (came_bare t f r)
  deed_bare s t ws (Lease w) r = lent_bare s w r
  deed_bare s t ws (Band w) r =
      if_deed (has_stream s (ws w)) (worked r) (worked (bare_reply r)) (worked_bare r)
  deed_bare s t ws (Settle w) r =
      if_deed (has_stream s (ws w)) (settled r) (settled (bare_reply r)) (settled_bare r)
  deed_bare s t ws (Tick to) r = refl
  deed_bare s t ws (Close u) r = if_deed (nat_eq u s) (shut r) (shut (bare_reply r)) (shut_bare r)
  deed_bare s t ws (Collect u) r = if_deed (nat_eq u s) (taken r) (taken (bare_reply r)) (taken_bare r)
  deed_bare s t ws (Admit spec) r = refl

  given_bare : (h : Option Held) (r : Reply F G) → held_after_lease h (bare_reply r) ≡ held_after_lease h r
  given_bare h (Leased s n g) = refl
  given_bare h r = refl

  stepped_bare : (h : Option Held) (r : Reply F G) → held_after_band h (bare_reply r) ≡ held_after_band h r
  stepped_bare h Stepped = refl
  stepped_bare h r = refl

  ended_bare : (h : Option Held) (r : Reply F G) → held_after_settle h (bare_reply r) ≡ held_after_settle h r
  ended_bare h Returned = refl
  ended_bare h (Finished n) = refl
  ended_bare h r = refl

  held_bare : (v : ℕ) (h : Option Held) (e : Event F) (r : Reply F G)
      → held_after v h (bare_event e) (bare_reply r) ≡ held_after v h e r
  held_bare v h (Arrive u f) r = refl
  held_bare v h (Lease w) r = ap (λ (g : Option Held). if nat_eq w v then g else h) (given_bare h r)
  held_bare v h (Band w) r = ap (λ (g : Option Held). if nat_eq w v then g else h) (stepped_bare h r)
  held_bare v h (Settle w) r = ap (λ (g : Option Held). if nat_eq w v then g else h) (ended_bare h r)
  held_bare v h (Tick to) r = refl
  held_bare v h (Close u) r = refl
  held_bare v h (Collect u) r = refl
  held_bare v h (Admit spec) r = refl

  clock_bare : (t : ℕ) (e : Event F) (r : Reply F G)
      → clock_after t (bare_event e) (bare_reply r) ≡ clock_after t e r
  clock_bare t (Arrive u f) r = refl
  clock_bare t (Lease w) r = refl
  clock_bare t (Band w) r = refl
  clock_bare t (Settle w) r = refl
  clock_bare t (Tick to) Ticked = refl
  clock_bare t (Tick to) r = refl
  clock_bare t (Close u) r = refl
  clock_bare t (Collect u) r = refl
  clock_bare t (Admit spec) r = refl

  -- the stream that is admitted, if one is
  joined_bare : (e : Event F) (r : Reply F G) (xs : List (StreamState F))
      → with_admitted new_stream (bare_event e) (bare_reply r) (map bare_stream xs)
      ≡ map bare_stream (with_admitted new_stream e r xs)
  joined_bare (Admit spec) (Admitted s) xs = sym (map_push bare_stream xs (new_stream spec))
  joined_bare (Admit spec) r xs = refl
  joined_bare e r xs = refl

  after_bare : (m : State F) (e : Event F) (r : Reply F G)
      → after (bare_state m) (bare_event e) (bare_reply r) ≡ bare_state (after m e r)
  after_bare m e r =
      state_same _ _ m.quantum _ _ _ _ (clock_bare m.clock e r)
      (ap (λ (ys : List (StreamState Blank)). with_admitted new_stream (bare_event e) (bare_reply r) ys)
      (map_at_of bare_stream (λ s x. did_any x (deed s m.clock (held_at m.workers) (bare_event e)
      (bare_reply r))) (λ s x. did_any x (deed s m.clock (held_at m.workers) e r)) 0 m.streams
      (λ s x. ap (did_any (bare_stream x)) (deed_bare s m.clock (held_at m.workers) e r)
      ∙ did_bare x (deed s m.clock (held_at m.workers) e r)))
      ∙ joined_bare e r (map_at 0 (λ s x. did_any x (deed s m.clock (held_at m.workers) e r)) m.streams))
      (map_at_like (λ w h. held_after w h (bare_event e) (bare_reply r))
      (λ w h. held_after w h e r) 0 m.workers (λ w h. held_bare w h e r))

  pub summary_bare : (setup : Setup) (p : Transcript F G)
      → state_of setup (bare p) ≡ bare_state (state_of setup p)
  summary_bare setup Start =
      state_same 0 0 setup.quantum _ _ _ _ refl
      (map_at_made bare_stream (λ s spec. stream_of {F = F} spec [])
      (λ s spec. stream_of spec []) 0 setup.streams (λ s spec. refl)) refl
  summary_bare setup (Then p e r) =
      summary_more Blank Blank setup (bare p) (bare_event e) (bare_reply r)
      ∙ ap (λ (m : State Blank). after m (bare_event e) (bare_reply r)) (summary_bare setup p)
      ∙ after_bare (state_of setup p) e r
      ∙ ap bare_state (sym (summary_more F G setup p e r))

  from_bare : (m : State F) (p : Transcript F G)
      → state_from (bare_state m) (bare p) ≡ bare_state (state_from m p)
  from_bare m Start = refl
  from_bare m (Then p e r) =
      ap (λ (n : State Blank). after n (bare_event e) (bare_reply r)) (from_bare m p)
      ∙ after_bare (state_from m p) e r

  admits_bare : (n k : ℕ) (held load : Load) (spec : StreamSpec) (r : Reply F G) → n ≡ k → held ≡ load
      → AllowsAdmit n held spec r → AllowsAdmit k load spec (bare_reply r)
  admits_bare n k held load spec (Admitted s) e f h =
      subst (λ (j : ℕ). AllowsAdmit {F = Blank} {G = Blank} j load spec (Admitted s)) e
      (subst (λ (l : Load). AllowsAdmit {F = Blank} {G = Blank} n l spec (Admitted s)) f h)
  admits_bare n k held load spec (SpecBack c back) e f h =
      subst (λ (j : ℕ). AllowsAdmit {F = Blank} {G = Blank} j load spec (SpecBack c back)) e
      (subst (λ (l : Load). AllowsAdmit {F = Blank} {G = Blank} n l spec (SpecBack c back)) f h)
  admits_bare n k held load spec r e f h = absurd h

  if_bare : (b : Bool) (r x y : Reply F G) → r ≡ (if b then x else y)
      → bare_reply r ≡ (if b then bare_reply x else bare_reply y)
  if_bare true r x y e = ap bare_reply e
  if_bare false r x y e = ap bare_reply e

  tick_bare : (b c : Bool) (r : Reply F G)
      → r ≡ (if b then Refused refusals.Past else if c then Refused refusals.ClockEnd else Ticked)
      → bare_reply r ≡ (if b then Refused refusals.Past else if c then Refused refusals.ClockEnd else Ticked)
  tick_bare true c r e = ap bare_reply e
  tick_bare false true r e = ap bare_reply e
  tick_bare false false r e = ap bare_reply e

  arrives_bare : (o : Option Refusal) (a : ℕ) (f : F) (r : Reply F G)
      → MatchOption o ((r ≡ Accepted a) ⊎ (r ≡ GivenBack refusals.NoMemory f)) (λ k. r ≡ GivenBack k f)
      → MatchOption o ((bare_reply r ≡ Accepted a) ⊎ (bare_reply r ≡ GivenBack refusals.NoMemory tt))
      (λ k. bare_reply r ≡ GivenBack k tt)
  arrives_bare None a f r h = elim h [ inl p ↦ inl (ap bare_reply p) | inr p ↦ inr (ap bare_reply p) ]
  arrives_bare (Some k) a f r h = ap bare_reply h

  leases_bare : (m : State F) (r : Reply F G) → AllowsLease m r → AllowsLease (bare_state m) (bare_reply r)
  leases_bare m (Leased s n g) h =
      let x = some_and (slice_get m.streams s) _ h.1 in
      let here : slice_get (map bare_stream m.streams) s ≡ Some (bare_stream x.0) =
      slice_get-map bare_stream m.streams s ∙ ap (option_map bare_stream) x.1 in (
        subst (λ (ds : List (Option ℕ)). IsEarliest ds s) (sym (deadlines_bare m.streams)) h.0,
        and_some (slice_get (map bare_stream m.streams) s) _ (bare_stream x.0) here (x.2.0, x.2.1),
      )
  leases_bare m (Refused refusals.NoneReady) h = subst NoneReady (sym (deadlines_bare m.streams)) h
  leases_bare m r h = absurd h

  worker_bare : (o : Option (Option Held)) (a b : Refusal) (P R : Type 0) (r : Reply F G) → (P → R)
      → MatchOption o (r ≡ Refused a) (λ h. MatchOption h P (λ l. r ≡ Refused b))
      → MatchOption o (bare_reply r ≡ Refused a) (λ h. MatchOption h R (λ l. bare_reply r ≡ Refused b))
  worker_bare None a b P R r f h = ap bare_reply h
  worker_bare (Some None) a b P R r f h = f h
  worker_bare (Some (Some l)) a b P R r f h = ap bare_reply h

  lease_bare : (o : Option (Option Held)) (a b : Refusal) (Q S : Held → Type 0) (r : Reply F G)
      → ((l : Held) → Q l → S l) → MatchOption o (r ≡ Refused a) (λ h. MatchOption h (r ≡ Refused b) Q)
      → MatchOption o (bare_reply r ≡ Refused a) (λ h. MatchOption h (bare_reply r ≡ Refused b) S)
  lease_bare None a b Q S r f h = ap bare_reply h
  lease_bare (Some None) a b Q S r f h = ap bare_reply h
  lease_bare (Some (Some l)) a b Q S r f h = f l h

  settles_bare : (m : State F) (s : ℕ) (r : Reply F G)
      → IsSomeAnd (slice_get m.streams s) (λ x. r ≡ settle_reply x)
      → IsSomeAnd (slice_get (map bare_stream m.streams) s) (λ x. bare_reply r ≡ settle_reply x)
  settles_bare m s r h =
      let x = some_and (slice_get m.streams s) _ h in
      let here : slice_get (map bare_stream m.streams) s ≡ Some (bare_stream x.0) =
      slice_get-map bare_stream m.streams s ∙ ap (option_map bare_stream) x.1 in
      and_some (slice_get (map bare_stream m.streams) s) _ (bare_stream x.0) here
      (if_bare (nat_eq x.0.done (steps x.0.spec)) r (Finished x.0.finished) Returned x.2)

  collects_by : (b : Bool) (P : F → G → Type 0) (o : Option F) (k r : Reply F G)
      → MatchBool b (IsSomeAnd o (λ f. (g : G) × P f g × (r ≡ Image g))) (r ≡ k)
      → MatchBool b (IsSomeAnd (option_map blank o) (λ f. (g : Blank) × ⊤ × (bare_reply r ≡ Image g)))
      (bare_reply r ≡ bare_reply k)
  collects_by true P None k r h = absurd h
  collects_by true P (Some f) k r h = (tt, tt, ap bare_reply h.2)
  collects_by false P o k r h = ap bare_reply h

module _ {F G : Type 0} (measures : StreamSpec → F → Bool → Type 0)
    (is_image : StreamSpec → F → G → Type 0) where
  stream_bare : (m : State F) (s : ℕ) (P R : Type 0) (Q : StreamState F → Type 0)
      (S : StreamState Blank → Type 0) → (P → R) → ((x : StreamState F) → Q x → S (bare_stream x))
      → MatchOption (slice_get m.streams s) P Q → MatchOption (slice_get (map bare_stream m.streams) s) R S
  stream_bare m s P R Q S f g h =
      rw (slice_get-map bare_stream m.streams s) (match_bare (slice_get m.streams s) P R Q S f g h)

  collects_bare : (x : StreamState F) (r : Reply F G) → AllowsCollect measures is_image x r
      → AllowsCollect measures_any is_any_image (bare_stream x) (bare_reply r)
  collects_bare x r h =
      rw (slice_get-map blank x.frames 0)
      (collects_by (nat_lt x.collected x.finished) (is_image x.spec) (slice_get x.frames 0)
      (lack_reply x) r h)

  allowed_bare : (m : State F) (e : Event F) (r : Reply F G) → Allows measures is_image m e r
      → Allows measures_any is_any_image (bare_state m) (bare_event e) (bare_reply r)
  allowed_bare m (Arrive s f) r h =
      stream_bare m s _ _ _ _ (ap bare_reply)
      (λ x a. (a.0, tt, arrives_bare (arrival_refusal a.0 x) x.accepted f r a.2)) h
  allowed_bare m (Lease w) r h =
      worker_bare (slice_get m.workers w) refusals.NoWorker refusals.Busy (AllowsLease m r)
      (AllowsLease (bare_state m) (bare_reply r)) r (leases_bare m r) h
  allowed_bare m (Band w) r h =
      lease_bare (slice_get m.workers w) refusals.NoWorker refusals.NoLease _ _ r
      (λ l a. if_bare (nat_eq l.used l.grant) r (Refused refusals.GrantSpent) Stepped a) h
  allowed_bare m (Settle w) r h =
      lease_bare (slice_get m.workers w) refusals.NoWorker refusals.NoLease _ _ r
      (λ l a. settles_bare m l.stream r a) h
  allowed_bare m (Tick to) r h = tick_bare (nat_lt to m.clock) (nat_lt LAST_MOMENT to) r h
  allowed_bare m (Close s) r h =
      stream_bare m s _ _ _ _ (ap bare_reply)
      (λ x a. if_bare x.is_closed r (Refused refusals.AlreadyClosed) Closing a) h
  allowed_bare m (Collect s) r h = stream_bare m s _ _ _ _ (ap bare_reply) (λ x a. collects_bare x r a) h
  allowed_bare m (Admit spec) r h =
      admits_bare (length m.streams) (length (map bare_stream m.streams)) (held_load m) (held_load (bare_state m))
      spec r (sym (length-map m.streams bare_stream)) (load_bare m) h

  pub bare_is : BareLaw measures is_image
  bare_is setup Start l = (tt, summary_bare setup (let p : Transcript F G = Start in p))
  bare_is setup (Then p e r) l =
      let before = bare_is setup p l.0 in (
        (
          before.0,
          subst (λ (m : State Blank). Allows measures_any is_any_image m (bare_event e)
              (bare_reply r)) (sym before.1) (allowed_bare (state_of setup p) e r l.1),
        ),
        summary_bare setup
            (Then p e r),
      )

  legal_bare : (m : State F) (p : Transcript F G) → IsLegalFrom measures is_image m p
      → IsLegalFrom measures_any is_any_image (bare_state m) (bare p)
  legal_bare m Start l = tt
  legal_bare m (Then p e r) l = (
    legal_bare m p l.0,
    subst (λ (n : State Blank). Allows measures_any is_any_image n (bare_event e) (bare_reply r))
        (sym (from_bare m p)) (allowed_bare (state_from m p) e r l.1),
  )

  pub bare_from : BareFromLaw measures is_image
  bare_from m n p l = (legal_bare m p l.0, from_bare m p ∙ ap bare_state l.1)
