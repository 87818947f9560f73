-- Each event has a right reply.
use Rattle.std.proofs.Common.{ℕ, zero, suc, ◌≡◌, ◌≤◌, ◌<◌, ◌⊎◌, inl, inr, Bool, nat_lt, refl, subst, arith}
use Rattle.std.proofs.Common.{le_trans, List, [], ◌∷◌, length, Option, Some, None, slice_get, MatchOption}
use Rattle.std.proofs.Common.{MatchBool, IsSomeAnd, true, false, ◌+◌, ◌*◌, ◌≢◌, ap}
use Rattle.cbs_account.specs.Admission.{Load, share, with_share}
use Rattle.cbs_account.specs.Admission as admission
use Rattle.y4m_header.specs.declared.chroma.Chroma.{Chroma}
use Rattle.y4m_header.specs.declared.chroma.Chroma.TheVariants as chromas
use Rattle.frame_view.specs.declared.geometry.Geometry.{Geometry}
use Rattle.filters.specs.declared.limits.TheConstants.{MOST_COST}
use Rattle.filters.specs.Chain.{format_of}
use Rattle.filters.proofs.ChainGeometry.{same_geometry}
use Rattle.stream_queue.specs.declared.limits.TheConstants.{MOST_PLACES}
use Rattle.cbs_account.specs.declared.limits.TheConstants.{LONGEST_PERIOD, MOST_STREAMS}
use Rattle.edf_pool.specs.Earliest.{IsEarliest, IsReady, NoneReady}
use Rattle.serve_core.specs.declared.held.Held.{Held}
use Rattle.y4m_header.specs.declared.limits.TheConstants.{MOST_FRAMES}
use Rattle.serve_core.specs.declared.refusal.Refusal.{Refusal}
use Rattle.serve_core.specs.declared.refusal.Refusal.TheVariants as refusals
use Rattle.serve_core.specs.Events.{Accepted, Admit, Admitted, Arrive, Band, Close, Collect, GivenBack, Image}
use Rattle.serve_core.specs.Events.{Lease, Leased, Refused, Reply, Settle, SpecBack, Tick}
use Rattle.serve_core.specs.Laws.{AnswerLaw}
use Rattle.serve_core.specs.Released.{held_load}
use Rattle.serve_core.specs.Rules.{AllowsAdmit, AllowsArrive, AllowsCollect, AllowsLease, arrival_refusal}
use Rattle.serve_core.specs.Rules.{band_reply, close_reply, grant, lack_reply, settle_reply, tick_reply}
use Rattle.serve_core.specs.Setup.{HasBandwidth, IsWithinLimits, StreamSpec, cost, steps}
use Rattle.serve_core.specs.Sound.{IsSound}
use Rattle.serve_core.specs.States.{State, StreamState, deadlines, ready_deadline}
use Rattle.serve_core.proofs.Events.Turns.{tested_lt}
use Rattle.serve_core.proofs.Items.Options.{and_some}
use Rattle.serve_core.proofs.Rules.Bares.{get_map}

some_same : {X : Type 0} (x y : X) → Some x ≡ Some y → x ≡ y
some_same x y e = cc

le_or : (a b : ℕ) → (a ≤ b) ⊎ (b < a)
le_or a b = grind arith

-- the first of some deadlines, and the others
at_first : (d : Option ℕ) (ds : List (Option ℕ)) (e : ℕ) → IsReady (d ∷ ds) 0 e → d ≡ Some e
at_first d ds e r = some_same d (Some e) r

none_first : (ds : List (Option ℕ)) → NoneReady ds → NoneReady (None ∷ ds)
none_first ds h zero e r = absurd (let no = at_first None ds e r in cc)
none_first ds h (suc s) e r = h s e r

later_first : (ds : List (Option ℕ)) (d : Option ℕ) (s : ℕ) (h : IsEarliest ds s)
    → ((e : ℕ) → d ≡ Some e → h.deadline < e) → (t e : ℕ) → IsReady (d ∷ ds) t e → h.deadline ≤ e
later_first ds d s h l zero e r = let less = l e (at_first d ds e r) in omega (arith, less)
later_first ds d s h l (suc t) e r = h.earliest t e r

later_lowest : (ds : List (Option ℕ)) (d : Option ℕ) (s : ℕ) (h : IsEarliest ds s)
    → ((e : ℕ) → d ≡ Some e → h.deadline < e) → (t : ℕ) → IsReady (d ∷ ds) t h.deadline → suc s ≤ t
later_lowest ds d s h l zero r =
    absurd (let less = l h.deadline (at_first d ds h.deadline r) in omega (arith, less))
later_lowest ds d s h l (suc t) r = let low = h.lowest t r in omega (arith, low)

later_earliest : (ds : List (Option ℕ)) (d : Option ℕ) (s : ℕ) (h : IsEarliest ds s)
    → ((e : ℕ) → d ≡ Some e → h.deadline < e) → IsEarliest (d ∷ ds) (suc s)
later_earliest ds d s h l = record {
  deadline = h.deadline;
  ready = h.ready;
  earliest = later_first ds d s h l;
  lowest = later_lowest ds d s h l;
}

first_due : (d : ℕ) (ds : List (Option ℕ)) → ((t e : ℕ) → IsReady ds t e → d ≤ e) → (t e : ℕ)
    → IsReady (Some d ∷ ds) t e → d ≤ e
first_due d ds h zero e r = let same : d ≡ e = some_same d e (at_first (Some d) ds e r) in omega (arith, same)
first_due d ds h (suc t) e r = h t e r

first_earliest : (d : ℕ) (ds : List (Option ℕ)) → ((t e : ℕ) → IsReady ds t e → d ≤ e)
    → IsEarliest (Some d ∷ ds) 0
first_earliest d ds h =
    record { deadline = d; ready = refl; earliest = first_due d ds h; lowest = λ t r. omega arith }

not_some : (e : ℕ) → None ≡ Some e → ⊥
not_some e p = cc

earliest_or : (ds : List (Option ℕ)) → NoneReady ds ⊎ ((s : ℕ) × IsEarliest ds s)
earliest_or [] = inl (λ s d r. let no = r in cc)
earliest_or (None ∷ ds) =
    elim (earliest_or ds) [
      | inl none ↦ inl (none_first ds none)
      | inr b ↦ inr (suc b.0, later_earliest ds None b.0 b.1 (λ e p. absurd (not_some e p)))
    ]
earliest_or (Some d ∷ ds) =
    elim (earliest_or ds) [
      | inl none ↦ inr (0, first_earliest d ds (λ t e r. absurd (none t e r)))
      | inr b ↦ elim (le_or d b.1.deadline) [
        | inl l ↦ inr (0, first_earliest d ds (λ t e r. le_trans l (b.1.earliest t e r)))
        | inr l ↦ inr (
          suc b.0,
          later_earliest ds (Some d) b.0 b.1
              (λ e p. subst (λ (n : ℕ). b.1.deadline < n) (some_same d e p) l),
        )
      ]
    ]

module _ {F G : Type 0} where
  answer_lease : (m : State F) → (r : Reply F G) × AllowsLease m r
  answer_lease m =
      elim (earliest_or (deadlines m)) [
        | inl none ↦ (Refused refusals.NoneReady, none)
        | inr b ↦
            let x = get_map ready_deadline m.streams b.0 (Some b.1.deadline) b.1.ready in (
              Leased b.0 x.0.finished (grant m.quantum x.0),
              (b.1, and_some (slice_get m.streams b.0) _ x.0 x.1 (refl, refl)),
            )
      ]

  answer_worker : (o : Option (Option Held)) (m : State F)
      → (r : Reply F G) × MatchOption o (r ≡ Refused refusals.NoWorker) (λ h.
      MatchOption h (AllowsLease m r) (λ l. r ≡ Refused refusals.Busy))
  answer_worker None m = (Refused refusals.NoWorker, refl)
  answer_worker (Some None) m = answer_lease m
  answer_worker (Some (Some l)) m = (Refused refusals.Busy, refl)

  answer_step : (o : Option (Option Held)) (P : Reply F G → Held → Type 0)
      → ((l : Held) → o ≡ Some (Some l) → (r : Reply F G) × P r l)
      → (r : Reply F G) × MatchOption o (r ≡ Refused refusals.NoWorker) (λ h.
      MatchOption h (r ≡ Refused refusals.NoLease) (P r))
  answer_step None P f = (Refused refusals.NoWorker, refl)
  answer_step (Some None) P f = (Refused refusals.NoLease, refl)
  answer_step (Some (Some l)) P f = f l refl

  answer_stream : (o : Option (StreamState F)) (x : Reply F G) (P : Reply F G → StreamState F → Type 0)
      → ((y : StreamState F) → o ≡ Some y → (r : Reply F G) × P r y)
      → (r : Reply F G) × MatchOption o (r ≡ x) (P r)
  answer_stream None x P f = (x, refl)
  answer_stream (Some y) x P f = f y refl

  answer_arrival : (o : Option Refusal) (a : ℕ) (f : F)
      → (r : Reply F G) × MatchOption o ((r ≡ Accepted a) ⊎ (r ≡ GivenBack refusals.NoMemory f))
      (λ k. r ≡ GivenBack k f)
  answer_arrival None a f = (Accepted a, inl refl)
  answer_arrival (Some k) a f = (GivenBack k f, refl)

  answer_collect : (b : Bool) (o : Option F) (P : F → G → Type 0) (k : Reply F G)
      → (b ≡ true → (f : F) × (o ≡ Some f)) → ((f : F) → o ≡ Some f → (g : G) × P f g)
      → (r : Reply F G) × MatchBool b (IsSomeAnd o (λ f. (g : G) × P f g × (r ≡ Image g))) (r ≡ k)
  answer_collect true o P k some images =
      let f = some refl in
      let g = images f.0 f.1 in
      (Image g.0, and_some o _ f.0 f.1 (g.0, g.1, refl))
  answer_collect false o P k some images = (k, refl)

-- whether a number or another, or its bounds
same_chroma : (a b : Chroma) → (a ≡ b) ⊎ (a ≢ b)
same_chroma chromas.S420 chromas.S420 = inl refl
same_chroma chromas.S422 chromas.S422 = inl refl
same_chroma chromas.S411 chromas.S411 = inl refl
same_chroma chromas.S444 chromas.S444 = inl refl
same_chroma chromas.S444Alpha chromas.S444Alpha = inl refl
same_chroma chromas.Mono chromas.Mono = inl refl
same_chroma a b = inr (λ e. absurd (cc))

number_or : (a b : ℕ) → (a ≡ b) ⊎ (a ≢ b)
number_or a b = grind arith

same_size : (a b : Geometry) → a.width ≡ b.width → a.height ≡ b.height → a.chroma ≡ b.chroma → a ≡ b
same_size a b w h c = same_geometry a b (let same : format_of a ≡ format_of b = cc in same)

geometry_or : (a b : Geometry) → (a ≡ b) ⊎ (a ≢ b)
geometry_or a b =
    elim (number_or a.width b.width) [
      | inr n ↦ inr (λ e. n (ap (λ (g : Geometry). g.width) e))
      | inl w ↦ elim (number_or a.height b.height) [
        | inr n ↦ inr (λ e. n (ap (λ (g : Geometry). g.height) e))
        | inl h ↦ elim (same_chroma a.chroma b.chroma) [
          | inr n ↦ inr (λ e. n (ap (λ (g : Geometry). g.chroma) e))
          | inl c ↦ inl (same_size a b w h c)
        ]
      ]
    ]

within_or : (a b : ℕ) → (a ≤ b) ⊎ ¬ (a ≤ b)
within_or a b = grind arith

both_or : {A B : Type 0} → A ⊎ ¬ A → B ⊎ ¬ B → (A × B) ⊎ ¬ (A × B)
both_or {A} {B} (inl a) (inl b) = inl (a, b)
both_or {A} {B} (inl a) (inr n) = inr (λ h. n h.1)
both_or {A} {B} (inr n) b = inr (λ h. n h.0)

bandwidth_or : (spec : StreamSpec) → HasBandwidth spec ⊎ ¬ HasBandwidth spec
bandwidth_or spec =
    let one = both_or (within_or spec.maximum spec.period) (within_or spec.period LONGEST_PERIOD) in
    elim (both_or (within_or 1 spec.maximum) one) [
      | inl h ↦ inl (h.0, h.1.0, h.1.1)
      | inr n ↦ inr (λ h. n (h.0, (h.1, h.2)))
    ]

limits_or : (spec : StreamSpec) → IsWithinLimits spec ⊎ ¬ IsWithinLimits spec
limits_or spec =
    let places = both_or (within_or 1 spec.queue) (within_or spec.queue MOST_PLACES) in
    let room = both_or (within_or 1 spec.outbox) (within_or spec.outbox MOST_PLACES) in
    let frames = both_or (within_or 1 spec.frames) (within_or spec.frames MOST_FRAMES) in
    let chain = both_or (within_or 1 (steps spec)) (within_or (cost spec) MOST_COST) in
    let all = both_or (geometry_or spec.chain.geometry spec.geometry)
    (both_or chain (both_or places (both_or room frames))) in
    elim all [
      | inl h ↦ inl (record {
        geometry = h.0;
        some_steps = h.1.0.0;
        cost = h.1.0.1;
        some_places = h.1.1.0.0;
        places = h.1.1.0.1;
        some_room = h.1.1.1.0.0;
        room = h.1.1.1.0.1;
        some_frames = h.1.1.1.1.0;
        frames = h.1.1.1.1.1;
      })
      | inr n ↦ inr
          (λ h. n (h.geometry, ((h.some_steps, h.cost), ((h.some_places, h.places), ((h.some_room, h.room), (h.some_frames, h.frames))))))
    ]

module _ {F G : Type 0} where
  -- a stream that is asked for is admitted, or refused for the first reason
  answer_by : (n : ℕ) (held : Load) (spec : StreamSpec) → n < MOST_STREAMS → IsWithinLimits spec → HasBandwidth spec
      → admission.Fits (with_share spec.maximum spec.period held)
      ⊎ ¬ admission.Fits (with_share spec.maximum spec.period held)
      → (r : Reply F G) × AllowsAdmit n held spec r
  answer_by n held spec few limits bandwidth (inl fits) =
      (Admitted n, (record { few = few; limits = limits; bandwidth = bandwidth; fits = fits }, refl))
  answer_by n held spec few limits bandwidth (inr lacks) =
      (SpecBack refusals.Overload spec, ((few, limits, bandwidth, lacks), refl))

  answer_admission : (n : ℕ) (held : Load) (spec : StreamSpec) → (r : Reply F G) × AllowsAdmit n held spec r
  answer_admission n held spec =
      elim (le_or MOST_STREAMS n) [
        | inl many ↦ (SpecBack refusals.TooManyStreams spec, (many, refl))
        | inr few ↦ elim (limits_or spec) [
          | inr lacks ↦ (SpecBack refusals.BadLimits spec, ((few, lacks), refl))
          | inl limits ↦ elim (bandwidth_or spec) [
            | inr lacks ↦ (SpecBack refusals.BadBandwidth spec, ((few, limits, lacks), refl))
            | inl bandwidth ↦ answer_by n held spec few limits bandwidth
                (within_or (held.shares + share spec.maximum spec.period) (1000000 * held.workers))
          ]
        ]
      ]

first_item : {X : Type 0} (xs : List X) → 0 < length xs → (x : X) × (slice_get xs 0 ≡ Some x)
first_item [] l = absurd (omega arith)
first_item (x ∷ xs) l = (x, refl)

module _ {F G : Type 0} (measures : StreamSpec → F → Bool → Type 0)
    (is_image : StreamSpec → F → G → Type 0) where
  finished_frame : (t : ℕ) (x : StreamState F) → IsSound t x → nat_lt x.collected x.finished ≡ true
      → (f : F) × (slice_get x.frames 0 ≡ Some f)
  finished_frame t x h test =
      let less = tested_lt x.collected x.finished test in
      first_item x.frames (omega (arith, less, h.finished, h.frames))

  pub answers : AnswerLaw measures is_image
  answers sizes m (Arrive s f) h images =
      answer_stream (slice_get m.streams s) (GivenBack refusals.NoStream f)
      (λ r x. (is_sized : Bool) × measures x.spec f is_sized × AllowsArrive is_sized x f r)
      (λ x e.
      let b = sizes x.spec f in
      let r = answer_arrival {G = G} (arrival_refusal b.0 x) x.accepted f in
      (r.0, (b.0, b.1, r.1)))
  answers sizes m (Lease w) h images = answer_worker (slice_get m.workers w) m
  answers sizes m (Band w) h images =
      answer_step (slice_get m.workers w) (λ r l. r ≡ band_reply l) (λ l e. (band_reply l, refl))
  answers sizes m (Settle w) h images =
      answer_step (slice_get m.workers w)
      (λ r l. IsSomeAnd (slice_get m.streams l.stream) (λ x. r ≡ settle_reply x))
      (λ l e. let x = h.leases w l e in
      (settle_reply x.0, and_some (slice_get m.streams l.stream) _ x.0 x.1 refl))
  answers sizes m (Tick to) h images = (tick_reply m.clock to, refl)
  answers sizes m (Close s) h images =
      answer_stream (slice_get m.streams s) (Refused refusals.NoStream) (λ r x. r ≡ close_reply x)
      (λ x e. (close_reply x, refl))
  answers sizes m (Collect s) h images =
      answer_stream (slice_get m.streams s) (Refused refusals.NoStream)
      (λ r x. AllowsCollect measures is_image x r)
      (λ x e.
      answer_collect (nat_lt x.collected x.finished) (slice_get x.frames 0) (is_image x.spec) (lack_reply x)
      (finished_frame m.clock x (h.streams s x e)) (λ f g. images s x f e g))
  answers sizes m (Admit spec) h images = answer_admission (length m.streams) (held_load m) spec
