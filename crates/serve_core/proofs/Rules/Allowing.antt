-- Which replies are right, by what is found of streams and workers.
use Rattle.std.proofs.Common.{ℕ, ◌≡◌, ◌≤◌, ◌<◌, ◌⊎◌, Bool, true, false, nat_eq, nat_lt}
use Rattle.std.proofs.Common.{List, [], ◌∷◌, map, Option, Some, None, IsTrue, IsFalse, MatchOption}
use Rattle.std.proofs.Common.{slice_get, if◌then◌else◌, refl, sym, ◌∙◌, ap, subst, arith, ◌+◌, length, sum_by}
use Rattle.std.proofs.lemmas.Bool.Decides.{nat_tests}
use Rattle.std.proofs.lemmas.List.{length-map}
use Rattle.std.proofs.lemmas.List.Sums.{sum_by-cons}
use Rattle.std.proofs.lemmas.Option.{slice_get-map}
use Rattle.std.specs.Option.{option_map}
use Rattle.cbs_account.specs.declared.limits.TheConstants.{LAST_MOMENT}
use Rattle.cbs_account.specs.Admission.{Load}
use Rattle.edf_pool.specs.Earliest.{IsEarliest, NoneReady}
use Rattle.serve_core.specs.declared.held.Held.{Held}
use Rattle.serve_core.specs.declared.refusal.Refusal.{Refusal}
use Rattle.serve_core.specs.declared.refusal.Refusal.TheVariants as refusals
use Rattle.serve_core.specs.Events.{Accepted, Admit, Admitted, Arrive, Band, Close, Closing, Collect, GivenBack}
use Rattle.serve_core.specs.Events.{Image, Lease, Leased, Refused, Reply, Settle, SpecBack, Ticked}
use Rattle.serve_core.specs.Released.{held_load, held_share}
use Rattle.serve_core.specs.Rules.{Allows, AllowsAdmit, AllowsArrive, AllowsCollect, AllowsLease}
use Rattle.serve_core.specs.Rules.{RefusesAdmit, arrival_refusal, close_reply, grant, lack, settle_reply}
use Rattle.serve_core.specs.Rules.{tick_reply}
use Rattle.serve_core.specs.Schedule.{IsAdmitAnswer, RefusesCollect, RefusesLease, ScheduleValue, ready_deadlines}
use Rattle.serve_core.specs.Schedule.{held_by, state_by, stream_by, tick_refusal}
use Rattle.serve_core.specs.Setup.{StreamSpec}
use Rattle.serve_core.specs.Streams.{KeptStream}
use Rattle.serve_core.specs.States as states
use Rattle.serve_core.proofs.Events.Turns.{tested_ge}
use Rattle.serve_core.proofs.Items.Options.{and_some}
use Rattle.serve_core.proofs.Schedules.Lifts.{stream_here}

at_most : (a b : ℕ) → b ≤ a → nat_lt a b ≡ false
at_most a b h = grind (arith, nat_tests)

below : (a b : ℕ) → a < b → nat_lt a b ≡ true
below a b h = grind (arith, nat_tests)

same : (a b : ℕ) → a ≡ b → nat_eq a b ≡ true
same a b h = grind (arith, nat_tests)

-- whatever frames are seen, the streams have the same deadlines
pub deadlines_same : {F : Type 0} (frames : KeptStream → List F) (streams : List KeptStream)
    → ready_deadlines streams ≡ map states.ready_deadline (map (stream_by frames) streams)
deadlines_same frames [] = refl
deadlines_same frames (stream ∷ streams) =
    ap (λ ds. states.ready_deadline stream.state ∷ ds) (deadlines_same frames streams)

-- and hold the same shares
shares_same : {F : Type 0} (frames : KeptStream → List F) (t : ℕ) (streams : List KeptStream)
    → sum_by (held_share t) (map (stream_by frames) streams) ≡ sum_by (λ stream. held_share t stream.state) streams
shares_same frames t [] = refl
shares_same frames t (stream ∷ streams) =
    sum_by-cons (held_share t) (stream_by frames stream) (map (stream_by frames) streams)
    ∙ ap (λ (n : ℕ). held_share t stream.state + n) (shares_same frames t streams)
    ∙ sym (sum_by-cons (λ (stream : KeptStream). held_share t stream.state) stream streams)

pub held_same : {F : Type 0} (frames : KeptStream → List F) (x : ScheduleValue)
    → held_load (state_by frames x) ≡ held_by x
held_same frames x =
    ap (λ (n : ℕ). let load : Load = record { workers = length x.workers; shares = n } in load)
    (shares_same frames x.clock x.streams)

-- what a schedule answers
answer_refuses : (x : ScheduleValue) (spec : StreamSpec) (e : Refusal) → IsAdmitAnswer x spec (Some e)
    → RefusesAdmit (length x.streams) (held_by x) spec e
answer_refuses x spec refusals.NoMemory h = absurd h
answer_refuses x spec e h = h

module _ (F G : Type 0) where
  ticked_by : (a b : Bool) → let past : Option Refusal = if a then Some refusals.Past
      else if b then Some refusals.ClockEnd else None in
      past ≡ None
      → let r : Reply F G = Ticked in
      r ≡ (if a then Refused refusals.Past else if b then Refused refusals.ClockEnd else Ticked)
  ticked_by true b h = absurd (cc)
  ticked_by false true h = absurd (cc)
  ticked_by false false h = refl

  not_ticked_by : (a b : Bool) (k : Refusal) → let past : Option Refusal = if a then Some refusals.Past
      else if b then Some refusals.ClockEnd else None in
      past ≡ Some k
      → let r : Reply F G = Refused k in
      r ≡ (if a then Refused refusals.Past else if b then Refused refusals.ClockEnd else Ticked)
  not_ticked_by true b k h = let e : k ≡ refusals.Past = cc in ap Refused e
  not_ticked_by false true k h = let e : k ≡ refusals.ClockEnd = cc in ap Refused e
  not_ticked_by false false k h = absurd (cc)

  pub ticked : (clock to : ℕ) → tick_refusal clock to ≡ None
      → let r : Reply F G = Ticked in r ≡ tick_reply clock to
  ticked clock to h = ticked_by (nat_lt to clock) (nat_lt LAST_MOMENT to) h

  pub not_ticked : (clock to : ℕ) (k : Refusal) → tick_refusal clock to ≡ Some k
      → let r : Reply F G = Refused k in r ≡ tick_reply clock to
  not_ticked clock to k h = not_ticked_by (nat_lt to clock) (nat_lt LAST_MOMENT to) k h

  -- a worker that isn't there, or holds nothing
  pub idle_worker : (o : Option (Option Held)) (k : Refusal) (P : Held → Type 0)
      → MatchOption o (k ≡ refusals.NoWorker) (λ held. (held ≡ None) × (k ≡ refusals.NoLease))
      → let r : Reply F G = Refused k in
      MatchOption o (r ≡ Refused refusals.NoWorker) (λ h. MatchOption h (r ≡ Refused refusals.NoLease) P)
  idle_worker None k P h = ap Refused h
  idle_worker (Some held) k P h = rw h.0 (ap Refused h.1)

within_by : (a b : Bool) → let past : Option Refusal = if a then Some refusals.Past
    else if b then Some refusals.ClockEnd else None in
    past ≡ None → b ≡ false
within_by true b h = absurd (cc)
within_by false true h = absurd (cc)
within_by false false h = refl

-- the clock stays within its limit
pub clock_within : (clock to : ℕ) → tick_refusal clock to ≡ None → to ≤ LAST_MOMENT
clock_within clock to h = tested_ge LAST_MOMENT to (within_by (nat_lt to clock) (nat_lt LAST_MOMENT to) h)

module _ {F G : Type 0} (measures : StreamSpec → F → Bool → Type 0)
    (is_image : StreamSpec → F → G → Type 0) (frames : KeptStream → List F) where
  -- closing
  pub close_allowed : (x : ScheduleValue) (s : ℕ) (stream : KeptStream) → slice_get x.streams s ≡ Some stream
      → IsFalse stream.state.is_closed → Allows measures is_image (state_by frames x) (Close s) Closing
  close_allowed x s stream e n = rw (stream_here frames x s stream e) (rw n refl)

  close_by : (o : Option KeptStream) (k : Refusal)
      → MatchOption o (k ≡ refusals.NoStream)
      (λ stream. IsTrue stream.state.is_closed × (k ≡ refusals.AlreadyClosed))
      → let r : Reply F G = Refused k in
      MatchOption (option_map (stream_by frames) o) (r ≡ Refused refusals.NoStream) (λ x. r ≡ close_reply x)
  close_by None k h = ap Refused h
  close_by (Some stream) k h = rw h.0 (ap Refused h.1)

  pub close_refused : (x : ScheduleValue) (s : ℕ) (k : Refusal)
      → MatchOption (slice_get x.streams s) (k ≡ refusals.NoStream)
      (λ stream. IsTrue stream.state.is_closed × (k ≡ refusals.AlreadyClosed))
      → Allows measures is_image (state_by frames x) (Close s) (Refused k)
  close_refused x s k h = rw (slice_get-map (stream_by frames) x.streams s) (close_by (slice_get x.streams s) k h)

  -- collecting
  pub collect_allowed : (x : ScheduleValue) (s : ℕ) (stream : KeptStream) (f : F) (g : G)
      → slice_get x.streams s ≡ Some stream → stream.state.collected < stream.state.finished
      → slice_get (frames stream) 0 ≡ Some f → is_image stream.state.spec f g
      → Allows measures is_image (state_by frames x) (Collect s) (Image g)
  collect_allowed x s stream f g e l at i =
      rw (stream_here frames x s stream e)
      (rw (below stream.state.collected stream.state.finished l)
      (and_some (slice_get (frames stream) 0) _ f at (g, i, refl)))

  collect_by : (o : Option KeptStream) (k : Refusal)
      → MatchOption o (k ≡ refusals.NoStream)
      (λ stream. (stream.state.finished ≤ stream.state.collected) × (k ≡ lack stream.state))
      → let r : Reply F G = Refused k in
      MatchOption (option_map (stream_by frames) o) (r ≡ Refused refusals.NoStream)
      (λ x. AllowsCollect measures is_image x r)
  collect_by None k h = ap Refused h
  collect_by (Some stream) k h =
      rw (at_most stream.state.collected stream.state.finished h.0) (ap Refused h.1)

  pub collect_refused : (x : ScheduleValue) (s : ℕ) (k : Refusal) → RefusesCollect x s k
      → Allows measures is_image (state_by frames x) (Collect s) (Refused k)
  collect_refused x s k h =
      rw (slice_get-map (stream_by frames) x.streams s) (collect_by (slice_get x.streams s) k h)

  -- leasing
  pub lease_allowed : (x : ScheduleValue) (w s n g : ℕ) (stream : KeptStream) → slice_get x.workers w ≡ Some None
      → IsEarliest (ready_deadlines x.streams) s → slice_get x.streams s ≡ Some stream → n ≡ stream.state.finished
      → g ≡ grant x.quantum stream.state
      → Allows measures is_image (state_by frames x) (Lease w) (Leased s n g)
  lease_allowed x w s n g stream free first e number granted =
      rw free (
        subst (λ (ds : List (Option ℕ)). IsEarliest ds s) (deadlines_same frames x.streams) first,
        and_some (slice_get (state_by frames x).streams s) _ (stream_by frames stream)
            (stream_here frames x s stream e) (number, granted),
      )

  lease_by : (x : ScheduleValue) (o : Option (Option Held)) (k : Refusal)
      → MatchOption o (k ≡ refusals.NoWorker) (λ held.
      MatchOption held ((k ≡ refusals.NoneReady) × NoneReady (ready_deadlines x.streams)) (λ l. k ≡ refusals.Busy))
      → let r : Reply F G = Refused k in
      MatchOption o (r ≡ Refused refusals.NoWorker) (λ h.
      MatchOption h (AllowsLease (state_by frames x) r) (λ l. r ≡ Refused refusals.Busy))
  lease_by x None k h = ap Refused h
  lease_by x (Some None) k h =
      let none : AllowsLease {F = F} {G = G} (state_by frames x) (Refused refusals.NoneReady) =
      subst NoneReady (deadlines_same frames x.streams) h.1 in
      subst (λ (k : Refusal). AllowsLease {F = F} {G = G} (state_by frames x) (Refused k)) (sym h.0) none
  lease_by x (Some (Some l)) k h = ap Refused h

  pub lease_refused : (x : ScheduleValue) (w : ℕ) (k : Refusal) → RefusesLease x w k
      → Allows measures is_image (state_by frames x) (Lease w) (Refused k)
  lease_refused x w k h = lease_by x (slice_get x.workers w) k h

  -- bands and settlements
  pub band_spent : (x : ScheduleValue) (w : ℕ) (l : Held) → slice_get x.workers w ≡ Some (Some l)
      → l.used ≡ l.grant → Allows measures is_image (state_by frames x) (Band w) (Refused refusals.GrantSpent)
  band_spent x w l e u = rw e (rw (same l.used l.grant u) refl)

  pub band_refused : (x : ScheduleValue) (w : ℕ) (k : Refusal)
      → MatchOption (slice_get x.workers w) (k ≡ refusals.NoWorker)
      (λ held. (held ≡ None) × (k ≡ refusals.NoLease))
      → Allows measures is_image (state_by frames x) (Band w) (Refused k)
  band_refused x w k h = idle_worker F G (slice_get x.workers w) k _ h

  pub settle_refused : (x : ScheduleValue) (w : ℕ) (k : Refusal)
      → MatchOption (slice_get x.workers w) (k ≡ refusals.NoWorker)
      (λ held. (held ≡ None) × (k ≡ refusals.NoLease))
      → Allows measures is_image (state_by frames x) (Settle w) (Refused k)
  settle_refused x w k h = idle_worker F G (slice_get x.workers w) k _ h

  pub settle_allowed : (x : ScheduleValue) (w : ℕ) (l : Held) (stream : KeptStream) (r : Reply F G)
      → slice_get x.workers w ≡ Some (Some l) → slice_get x.streams l.stream ≡ Some stream
      → r ≡ settle_reply (stream_by frames stream)
      → Allows measures is_image (state_by frames x) (Settle w) r
  settle_allowed x w l stream r e f h =
      rw e (and_some (slice_get (state_by frames x).streams l.stream) _ (stream_by frames stream)
      (stream_here frames x l.stream stream f) h)

  -- arriving: what tells of the size is the test that the stream made
  refused_by : (o : Option KeptStream) (f : F) (k : Refusal) (found : Option Refusal)
      (IsSized : KeptStream → Bool → Type 0)
      → ((stream : KeptStream) (b : Bool) → IsSized stream b → measures stream.state.spec f b) → found ≡ Some k
      → MatchOption o (found ≡ Some refusals.NoStream) (λ stream.
      (b : Bool) × IsSized stream b × (found ≡ arrival_refusal b stream.state))
      → let r : Reply F G = GivenBack k f in
      MatchOption (option_map (stream_by frames) o) (r ≡ GivenBack refusals.NoStream f) (λ x.
      (b : Bool) × measures x.spec f b × AllowsArrive b x f r)
  refused_by None f k found IsSized m e h =
      let q : k ≡ refusals.NoStream = cc in ap (λ (j : Refusal). GivenBack j f) q
  refused_by (Some stream) f k found IsSized m e h =
      let q : arrival_refusal h.0 stream.state ≡ Some k = sym h.2 ∙ e in
      (h.0, m stream h.0 h.1, rw q refl)

  pub arrive_refused : (x : ScheduleValue) (s : ℕ) (f : F) (k : Refusal) (found : Option Refusal)
      (IsSized : KeptStream → Bool → Type 0)
      → ((stream : KeptStream) (b : Bool) → IsSized stream b → measures stream.state.spec f b) → found ≡ Some k
      → MatchOption (slice_get x.streams s) (found ≡ Some refusals.NoStream) (λ stream.
      (b : Bool) × IsSized stream b × (found ≡ arrival_refusal b stream.state))
      → Allows measures is_image (state_by frames x) (Arrive s f) (GivenBack k f)
  arrive_refused x s f k found IsSized m e h =
      rw (slice_get-map (stream_by frames) x.streams s)
      (refused_by (slice_get x.streams s) f k found IsSized m e h)

  chosen_by : (o : Option KeptStream) (f : F) (r : Reply F G) (found : Option Refusal)
      (IsSized : KeptStream → Bool → Type 0)
      → ((stream : KeptStream) (b : Bool) → IsSized stream b → measures stream.state.spec f b) → found ≡ None
      → MatchOption o (found ≡ Some refusals.NoStream) (λ stream.
      (b : Bool) × IsSized stream b × (found ≡ arrival_refusal b stream.state))
      → ((stream : KeptStream) → o ≡ Some stream
      → (r ≡ Accepted stream.state.accepted) ⊎ (r ≡ GivenBack refusals.NoMemory f))
      → MatchOption (option_map (stream_by frames) o) (r ≡ GivenBack refusals.NoStream f) (λ x.
      (b : Bool) × measures x.spec f b × AllowsArrive b x f r)
  chosen_by None f r found IsSized m e h c = absurd (cc)
  chosen_by (Some stream) f r found IsSized m e h c =
      let q : arrival_refusal h.0 stream.state ≡ None = sym h.2 ∙ e in
      (h.0, m stream h.0 h.1, rw q (c stream refl))

  -- where nothing refuses a frame, it is accepted or its memory is refused
  pub arrive_chosen : (x : ScheduleValue) (s : ℕ) (f : F) (r : Reply F G) (found : Option Refusal)
      (IsSized : KeptStream → Bool → Type 0)
      → ((stream : KeptStream) (b : Bool) → IsSized stream b → measures stream.state.spec f b) → found ≡ None
      → MatchOption (slice_get x.streams s) (found ≡ Some refusals.NoStream) (λ stream.
      (b : Bool) × IsSized stream b × (found ≡ arrival_refusal b stream.state))
      → ((stream : KeptStream) → slice_get x.streams s ≡ Some stream
      → (r ≡ Accepted stream.state.accepted) ⊎ (r ≡ GivenBack refusals.NoMemory f))
      → Allows measures is_image (state_by frames x) (Arrive s f) r
  arrive_chosen x s f r found IsSized m e h c =
      rw (slice_get-map (stream_by frames) x.streams s)
      (chosen_by (slice_get x.streams s) f r found IsSized m e h c)

  -- admitting
  admits_as : (x : ScheduleValue) (spec : StreamSpec) (r : Reply F G)
      → AllowsAdmit (length x.streams) (held_by x) spec r
      → Allows measures is_image (state_by frames x) (Admit spec) r
  admits_as x spec r h =
      rw (length-map x.streams (stream_by frames), held_same frames x) h

  pub admit_allowed : (x : ScheduleValue) (spec : StreamSpec) (s : ℕ) → IsAdmitAnswer x spec None
      → s ≡ length x.streams → Allows measures is_image (state_by frames x) (Admit spec) (Admitted s)
  admit_allowed x spec s can e = admits_as x spec (Admitted s) (can, e)

  pub admit_refused : (x : ScheduleValue) (spec : StreamSpec) (k : Refusal) → IsAdmitAnswer x spec (Some k)
      → Allows measures is_image (state_by frames x) (Admit spec) (SpecBack k spec)
  admit_refused x spec k h = admits_as x spec (SpecBack k spec) (answer_refuses x spec k h, refl)

  pub admit_unfed : (x : ScheduleValue) (spec : StreamSpec) → IsAdmitAnswer x spec None
      → Allows measures is_image (state_by frames x) (Admit spec) (SpecBack refusals.NoMemory spec)
  admit_unfed x spec can = admits_as x spec (SpecBack refusals.NoMemory spec) (can, refl)
