-- The rules leave one choice.
use Rattle.std.proofs.Common.{ℕ, ◌≡◌, ◌≤◌, ◌⊎◌, inl, inr, Bool, nat_lt, refl, sym, ◌∙◌, ap, subst, arith}
use Rattle.std.proofs.Common.{List, Option, Some, None, slice_get, MatchOption, MatchBool, IsSomeAnd, true}
use Rattle.std.proofs.Common.{false, length}
use Rattle.cbs_account.specs.Admission.{Load}
use Rattle.edf_pool.specs.Earliest.{IsEarliest, IsReady, NoneReady}
use Rattle.serve_core.specs.declared.held.Held.{Held}
use Rattle.serve_core.specs.declared.refusal.Refusal.{Refusal}
use Rattle.serve_core.specs.declared.refusal.Refusal.TheVariants as refusals
use Rattle.serve_core.specs.Events.{Accepted, Admit, Admitted, Arrive, Band, Close, Collect, GivenBack, Image}
use Rattle.serve_core.specs.Events.{Event, Lease, Leased, Refused, Reply, Settle, SpecBack, Tick}
use Rattle.serve_core.specs.Laws.{AreDetermined, IsMemoryChoice, OneChoiceLaw}
use Rattle.serve_core.specs.Released.{held_load}
use Rattle.serve_core.specs.Rules.{AllowsAdmit, AllowsArrive, AllowsCollect, AllowsLease, CanAdmit, RefusesAdmit}
use Rattle.serve_core.specs.Rules.{arrival_refusal, band_reply, close_reply, grant, lack_reply, settle_reply}
use Rattle.serve_core.specs.Setup.{StreamSpec}
use Rattle.serve_core.specs.States.{State, StreamState, deadlines}
use Rattle.serve_core.proofs.Events.Soundness.{one_item}
use Rattle.serve_core.proofs.Items.Options.{some_and}

-- two that are earliest are one
one_earliest : (ds : List (Option ℕ)) (s t : ℕ) → IsEarliest ds s → IsEarliest ds t → s ≡ t
one_earliest ds s t h k =
    let same : h.deadline ≡ k.deadline =
    omega (arith, h.earliest t k.deadline k.ready, k.earliest s h.deadline h.ready) in
    let one : s ≤ t = h.lowest t (subst (IsReady ds t) (sym same) k.ready) in
    let two : t ≤ s = k.lowest s (subst (IsReady ds s) same h.ready) in
    omega (arith, one, two)

not_both : (ds : List (Option ℕ)) (s : ℕ) → IsEarliest ds s → NoneReady ds → ⊥
not_both ds s first none = none s first.deadline first.ready

-- one reason is the first
one_reason : (n : ℕ) (held : Load) (spec : StreamSpec) (a b : Refusal) → RefusesAdmit n held spec a
    → RefusesAdmit n held spec b → a ≡ b
one_reason n held spec refusals.TooManyStreams refusals.TooManyStreams x y = refl
one_reason n held spec refusals.TooManyStreams refusals.BadLimits x y = absurd (omega (arith, x, y.0))
one_reason n held spec refusals.TooManyStreams refusals.BadBandwidth x y = absurd (omega (arith, x, y.0))
one_reason n held spec refusals.TooManyStreams refusals.Overload x y = absurd (omega (arith, x, y.0))
one_reason n held spec refusals.TooManyStreams refusals.NoMemory x y = absurd (omega (arith, x, y.few))
one_reason n held spec refusals.TooManyStreams b x y = absurd y
one_reason n held spec refusals.BadLimits refusals.TooManyStreams x y = absurd (omega (arith, y, x.0))
one_reason n held spec refusals.BadLimits refusals.BadLimits x y = refl
one_reason n held spec refusals.BadLimits refusals.BadBandwidth x y = absurd (x.1 y.1)
one_reason n held spec refusals.BadLimits refusals.Overload x y = absurd (x.1 y.1)
one_reason n held spec refusals.BadLimits refusals.NoMemory x y = absurd (x.1 y.limits)
one_reason n held spec refusals.BadLimits b x y = absurd y
one_reason n held spec refusals.BadBandwidth refusals.TooManyStreams x y = absurd (omega (arith, y, x.0))
one_reason n held spec refusals.BadBandwidth refusals.BadLimits x y = absurd (y.1 x.1)
one_reason n held spec refusals.BadBandwidth refusals.BadBandwidth x y = refl
one_reason n held spec refusals.BadBandwidth refusals.Overload x y = absurd (x.2 y.2)
one_reason n held spec refusals.BadBandwidth refusals.NoMemory x y = absurd (x.2 y.bandwidth)
one_reason n held spec refusals.BadBandwidth b x y = absurd y
one_reason n held spec refusals.Overload refusals.TooManyStreams x y = absurd (omega (arith, y, x.0))
one_reason n held spec refusals.Overload refusals.BadLimits x y = absurd (y.1 x.1)
one_reason n held spec refusals.Overload refusals.BadBandwidth x y = absurd (y.2 x.2)
one_reason n held spec refusals.Overload refusals.Overload x y = refl
one_reason n held spec refusals.Overload refusals.NoMemory x y = absurd (x.3 y.fits)
one_reason n held spec refusals.Overload b x y = absurd y
one_reason n held spec refusals.NoMemory refusals.TooManyStreams x y = absurd (omega (arith, y, x.few))
one_reason n held spec refusals.NoMemory refusals.BadLimits x y = absurd (y.1 x.limits)
one_reason n held spec refusals.NoMemory refusals.BadBandwidth x y = absurd (y.2 x.bandwidth)
one_reason n held spec refusals.NoMemory refusals.Overload x y = absurd (y.3 x.fits)
one_reason n held spec refusals.NoMemory refusals.NoMemory x y = refl
one_reason n held spec refusals.NoMemory b x y = absurd y
one_reason n held spec a b x y = absurd x

-- a stream that can be admitted is refused for want of memory alone
memory_alone : (n : ℕ) (held : Load) (spec : StreamSpec) (a : Refusal) → CanAdmit n held spec
    → RefusesAdmit n held spec a → a ≡ refusals.NoMemory
memory_alone n held spec a can h = one_reason n held spec a refusals.NoMemory h can

module _ {F G : Type 0} where
  -- what is chosen where a stream could be admitted
  abbrev Joined : StreamSpec → Reply F G → Reply F G → Type 0
  Joined spec r q = (s : ℕ) × (given : StreamSpec) × (let e : Event F = Admit spec in e ≡ Admit given)
      × (r ≡ Admitted s) × (q ≡ SpecBack refusals.NoMemory given)

  joins : (n s : ℕ) (held : Load) (spec back : StreamSpec) (a : Refusal) → CanAdmit n held spec
      → RefusesAdmit n held spec a → back ≡ spec → Joined spec (Admitted s) (SpecBack a back)
  joins n s held spec back a can h e =
      let only = memory_alone n held spec a can h in
      (s, spec, refl, refl, cc)

  same_admission : (n : ℕ) (held : Load) (spec : StreamSpec) (r q : Reply F G)
      → AllowsAdmit n held spec r → AllowsAdmit n held spec q
      → (r ≡ q) ⊎ (Joined spec r q ⊎ Joined spec q r)
  same_admission n held spec (Admitted s) (Admitted t) h k = inl (ap Admitted (h.1 ∙ sym k.1))
  same_admission n held spec (Admitted s) (SpecBack a back) h k =
      inr (inl (joins n s held spec back a h.0 k.0 k.1))
  same_admission n held spec (Admitted s) q h k = absurd k
  same_admission n held spec (SpecBack a back) (Admitted s) h k =
      inr (inr (joins n s held spec back a k.0 h.0 h.1))
  same_admission n held spec (SpecBack a back) (SpecBack b given) h k =
      let one = one_reason n held spec a b h.0 k.0 in
      let two = h.1 ∙ sym k.1 in
      let x : Reply F G = SpecBack a back in
      let same : x ≡ SpecBack b given = cc in
      inl same
  same_admission n held spec (SpecBack a back) q h k = absurd k
  same_admission n held spec r q h k = absurd h

module _ {F G : Type 0} where
  -- what is chosen where a frame could be accepted
  abbrev Chosen : ℕ → F → Reply F G → Reply F G → Type 0
  Chosen n f r q = (r ≡ Accepted n) × (q ≡ GivenBack refusals.NoMemory f)

  same_arrival : (o : Option Refusal) (a : ℕ) (f : F) (r q : Reply F G)
      → MatchOption o ((r ≡ Accepted a) ⊎ (r ≡ GivenBack refusals.NoMemory f)) (λ k. r ≡ GivenBack k f)
      → MatchOption o ((q ≡ Accepted a) ⊎ (q ≡ GivenBack refusals.NoMemory f)) (λ k. q ≡ GivenBack k f)
      → (r ≡ q) ⊎ (Chosen a f r q ⊎ Chosen a f q r)
  same_arrival (Some k) a f r q h j = inl (h ∙ sym j)
  same_arrival None a f r q h j =
      elim h [
        | inl x ↦ elim j [ inl y ↦ inl (x ∙ sym y) | inr y ↦ inr (inl (x, y)) ]
        | inr x ↦ elim j [ inl y ↦ inr (inr (y, x)) | inr y ↦ inl (x ∙ sym y) ]
      ]

  same_lease : (m : State F) (s n g t k h : ℕ) → AllowsLease {F = F} {G = G} m (Leased s n g)
      → AllowsLease {F = F} {G = G} m (Leased t k h) → let r : Reply F G = Leased s n g in r ≡ Leased t k h
  same_lease m s n g t k h a b =
      let x = some_and (slice_get m.streams s) _ a.1 in
      let y = some_and (slice_get m.streams t) _ b.1 in
      let p : s ≡ t = one_earliest (deadlines m) s t a.0 b.0 in
      let z : x.0 ≡ y.0 = one_item m.streams s t x.0 y.0 p x.1 y.1 in
      let i : n ≡ k = x.2.0 ∙ ap (λ (v : StreamState F). v.finished) z ∙ sym y.2.0 in
      let j : g ≡ h = x.2.1 ∙ ap (grant m.quantum) z ∙ sym y.2.1 in
      cc

  same_leases : (m : State F) (r q : Reply F G) → AllowsLease m r → AllowsLease m q → r ≡ q
  same_leases m (Leased s n g) (Leased t k h) a b = same_lease m s n g t k h a b
  same_leases m (Leased s n g) (Refused refusals.NoneReady) a b = absurd (not_both (deadlines m) s a.0 b)
  same_leases m (Leased s n g) q a b = absurd b
  same_leases m (Refused refusals.NoneReady) (Leased s n g) a b = absurd (not_both (deadlines m) s b.0 a)
  same_leases m (Refused refusals.NoneReady) (Refused refusals.NoneReady) a b = refl
  same_leases m (Refused refusals.NoneReady) q a b = absurd b
  same_leases m r q a b = absurd a

  same_worker : (o : Option (Option Held)) (a b : Refusal) (m : State F) (r q : Reply F G)
      → MatchOption o (r ≡ Refused a) (λ h. MatchOption h (AllowsLease m r) (λ l. r ≡ Refused b))
      → MatchOption o (q ≡ Refused a) (λ h. MatchOption h (AllowsLease m q) (λ l. q ≡ Refused b)) → r ≡ q
  same_worker None a b m r q h k = h ∙ sym k
  same_worker (Some None) a b m r q h k = same_leases m r q h k
  same_worker (Some (Some l)) a b m r q h k = h ∙ sym k

  same_step : (o : Option (Option Held)) (a b : Refusal) (P : Reply F G → Held → Type 0) (r q : Reply F G)
      → ((l : Held) → P r l → P q l → r ≡ q)
      → MatchOption o (r ≡ Refused a) (λ h. MatchOption h (r ≡ Refused b) (P r))
      → MatchOption o (q ≡ Refused a) (λ h. MatchOption h (q ≡ Refused b) (P q)) → r ≡ q
  same_step None a b P r q f h k = h ∙ sym k
  same_step (Some None) a b P r q f h k = h ∙ sym k
  same_step (Some (Some l)) a b P r q f h k = f l h k

  same_end : (o : Option (StreamState F)) (r q : Reply F G) → IsSomeAnd o (λ x. r ≡ settle_reply x)
      → IsSomeAnd o (λ x. q ≡ settle_reply x) → r ≡ q
  same_end None r q h k = absurd h
  same_end (Some x) r q h k = h ∙ sym k

  same_stream : (o : Option (StreamState F)) (x : Reply F G) (P : Reply F G → StreamState F → Type 0)
      (r q : Reply F G)
      → ((y : StreamState F) → P r y → P q y → r ≡ q)
      → MatchOption o (r ≡ x) (P r) → MatchOption o (q ≡ x) (P q) → r ≡ q
  same_stream None x P r q f h k = h ∙ sym k
  same_stream (Some y) x P r q f h k = f y h k

  same_collect : (b : Bool) (o : Option F) (P : F → G → Type 0) (k r q : Reply F G)
      → ((f : F) (g h : G) → P f g → P f h → g ≡ h)
      → MatchBool b (IsSomeAnd o (λ f. (g : G) × P f g × (r ≡ Image g))) (r ≡ k)
      → MatchBool b (IsSomeAnd o (λ f. (g : G) × P f g × (q ≡ Image g))) (q ≡ k) → r ≡ q
  same_collect true None P k r q one h j = absurd h
  same_collect true (Some f) P k r q one h j = h.2 ∙ ap Image (one f h.0 j.0 h.1 j.1) ∙ sym j.2
  same_collect false o P k r q one h j = h ∙ sym j

module _ {F G : Type 0} (measures : StreamSpec → F → Bool → Type 0)
    (is_image : StreamSpec → F → G → Type 0) where
  arrive_choice : AreDetermined measures is_image
      → (o : Option (StreamState F)) (s : ℕ) (f : F) (r q : Reply F G)
      → MatchOption o (r ≡ GivenBack refusals.NoStream f) (λ x.
      (is_sized : Bool) × measures x.spec f is_sized × AllowsArrive is_sized x f r)
      → MatchOption o (q ≡ GivenBack refusals.NoStream f) (λ x.
      (is_sized : Bool) × measures x.spec f is_sized × AllowsArrive is_sized x f q)
      → (r ≡ q) ⊎ (IsMemoryChoice (Arrive s f) r q ⊎ IsMemoryChoice (Arrive s f) q r)
  arrive_choice one None s f r q h k = inl (h ∙ sym k)
  arrive_choice one (Some x) s f r q h k =
      let same : k.0 ≡ h.0 = one.0 x.spec f k.0 h.0 k.1 h.1 in
      let j : AllowsArrive h.0 x f q = subst (λ (b : Bool). AllowsArrive b x f q) same k.2 in
      elim (same_arrival (arrival_refusal h.0 x) x.accepted f r q h.2 j) [
        | inl p ↦ inl p
        | inr p ↦ inr (elim p [
          | inl c ↦ inl (inl (s, x.accepted, f, refl, c.0, c.1))
          | inr c ↦ inr (inl (s, x.accepted, f, refl, c.0, c.1))
        ])
      ]

  pub one_choice : OneChoiceLaw measures is_image
  one_choice one m (Arrive s f) r q h k = arrive_choice one (slice_get m.streams s) s f r q h k
  one_choice one m (Lease w) r q h k =
      inl (same_worker (slice_get m.workers w) refusals.NoWorker refusals.Busy m r q h k)
  one_choice one m (Band w) r q h k =
      inl (same_step (slice_get m.workers w) refusals.NoWorker refusals.NoLease (λ v l. v ≡ band_reply l) r q
      (λ l a b. a ∙ sym b) h k)
  one_choice one m (Settle w) r q h k =
      inl (same_step (slice_get m.workers w) refusals.NoWorker refusals.NoLease
      (λ v l. IsSomeAnd (slice_get m.streams l.stream) (λ x. v ≡ settle_reply x)) r q
      (λ l a b. same_end (slice_get m.streams l.stream) r q a b) h k)
  one_choice one m (Tick to) r q h k = inl (h ∙ sym k)
  one_choice one m (Close s) r q h k =
      inl (same_stream (slice_get m.streams s) (Refused refusals.NoStream) (λ v x. v ≡ close_reply x) r q
      (λ x a b. a ∙ sym b) h k)
  one_choice one m (Collect s) r q h k =
      inl (same_stream (slice_get m.streams s) (Refused refusals.NoStream)
      (λ v x. AllowsCollect measures is_image x v) r q
      (λ x a b. same_collect (nat_lt x.collected x.finished) (slice_get x.frames 0) (is_image x.spec)
      (lack_reply x)
      r q (one.1 x.spec) a b) h k)
  one_choice one m (Admit spec) r q h k =
      elim (same_admission (length m.streams) (held_load m) spec r q h k) [
        | inl same ↦ inl same
        | inr chosen ↦ inr (elim chosen [ inl c ↦ inl (inr c) | inr c ↦ inr (inr c) ])
      ]
