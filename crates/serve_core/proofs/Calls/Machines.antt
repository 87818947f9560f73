-- What each event makes of a machine.
use Rattle.std.proofs.Common.{ℕ, zero, suc, ◌≡◌, ◌≢◌, ◌<◌, inl, inr, Bool, true, List, [], ◌∷◌, Option, Some}
use Rattle.std.proofs.Common.{None, IsFalse, IsSome, IsSomeAnd, MatchOption, IsTrue, ◌↔◌, slice_get}
use Rattle.std.proofs.Common.{slice_set, is_some, refl, sym, ◌∙◌, ap, subst, arith, ◌++◌, length}
use Rattle.std.proofs.lemmas.Option.{slice_get-map}
use Rattle.std.specs.Option.{option_map}
use Rattle.cbs_account.specs.Admission as admission
use Rattle.frame_view.specs.declared.geometry.Geometry.{Geometry}
use Rattle.filters.specs.ChainImage.{FrameValue, value_of}
use Rattle.lease.specs.Job.{JobValue}
use Rattle.serve_core.specs.declared.collected.Collected.{Collected}
use Rattle.serve_core.specs.declared.held.Held.{Held}
use Rattle.serve_core.specs.declared.refusal.Refusal.{Refusal}
use Rattle.serve_core.specs.declared.refusal.Refusal.TheVariants as refusals
use Rattle.serve_core.specs.AtOnce.{with_used}
use Rattle.serve_core.specs.Counts.{Came}
use Rattle.serve_core.specs.Events.{Accepted, Admit, Admitted, Arrive, Band, Close, Closing, Collect, Event}
use Rattle.serve_core.specs.Events.{Finished, GivenBack, Image, Lease, Leased, Refused, Reply, Returned, Settle}
use Rattle.serve_core.specs.Events.{SpecBack, Stepped, Tick, Ticked}
use Rattle.serve_core.specs.Frames.{measures, is_image}
use Rattle.serve_core.specs.MachineInside.{AreWhole, IsMachine, machine}
use Rattle.serve_core.specs.Rules.{Allows, arrival_refusal, settle_reply}
use Rattle.serve_core.specs.Streams.{GainsImage, KeptStream, opened, source_in, source_of}
use Rattle.serve_core.specs.Schedule as rules
use Rattle.serve_core.specs.Released.{StillFits}
use Rattle.serve_core.specs.Schedule.{CanStep, HasLease, HasStream, IsAdmitAnswer, IsFirst, IsLending}
use Rattle.serve_core.specs.Schedule.{RefusesCollect, RefusesLease, ScheduleValue, held_by, tick_refusal}
use Rattle.serve_core.specs.Schedule.{with_held, with_stream, with_stream_at}
use Rattle.serve_core.specs.Setup.{StreamSpec, steps}
use Rattle.serve_core.specs.Sound.{Sound}
use Rattle.serve_core.specs.States.{State, StreamState, after, did}
use Rattle.serve_core.proofs.Charges.AtOnce.{band_allowed, test_no, test_yes, used_more}
use Rattle.serve_core.proofs.Charges.Facts.{band_left, lease_of}
use Rattle.serve_core.proofs.Events.Changes.{after_refused, after_spec_back, after_tick}
use Rattle.serve_core.proofs.Events.Kept.{step_sound}
use Rattle.serve_core.proofs.Events.Releases.{fits_step}
use Rattle.serve_core.proofs.Events.Soundness.{one_item}
use Rattle.serve_core.proofs.Events.Steps.{new_lease}
use Rattle.serve_core.proofs.Items.Lists.{push_or}
use Rattle.serve_core.proofs.Items.Options.{and_some, some_and}
use Rattle.serve_core.proofs.Rules.Allowing.{admit_allowed, admit_refused, admit_unfed, arrive_chosen, arrive_refused}
use Rattle.serve_core.proofs.Rules.Allowing.{close_allowed, close_refused, held_same}
use Rattle.serve_core.proofs.Rules.Allowing.{collect_allowed, collect_refused, lease_allowed, lease_refused}
use Rattle.serve_core.proofs.Rules.Allowing.{settle_allowed, ticked}
use Rattle.serve_core.proofs.Schedules.Lifts.{led_admit, led_arrive, led_band, led_close, led_collect, led_lease}
use Rattle.serve_core.proofs.Schedules.Lifts.{led_settle, stream_here}

abbrev IsWhole : KeptStream → Type 0
IsWhole stream = is_some stream.leased ≡ is_some stream.state.holder

-- one stream changes
whole_set : (streams : List KeptStream) (s : ℕ) (stream : KeptStream) → AreWhole streams → IsWhole stream
    → AreWhole (slice_set streams s stream)
whole_set [] s stream w h t l e = absurd (cc)
whole_set (x ∷ xs) zero stream w h zero l e = subst IsWhole (let same : stream ≡ l = cc in same) h
whole_set (x ∷ xs) zero stream w h (suc t) l e = w (suc t) l e
whole_set (x ∷ xs) (suc s) stream w h zero l e = w zero l e
whole_set (x ∷ xs) (suc s) stream w h (suc t) l e = whole_set xs s stream (λ u k f. w (suc u) k f) h t l e

-- the reply is right, and the machine goes on to what is new
pub record Goes (old new : ScheduleValue) (e : Event FrameValue) (r : Reply FrameValue FrameValue)
    : Type 0 where
  pub allowed : Allows measures is_image (machine old) e r
  pub state : machine new ≡ after (machine old) e r
  pub kept : IsMachine new

-- the same of the machine's value
pub allowed_of : {old new : ScheduleValue} {e : Event FrameValue} {r : Reply FrameValue FrameValue}
    {m : State FrameValue} → Goes old new e r → machine old ≡ m → Allows measures is_image m e r
allowed_of {e = e} {r = r} g v = subst (λ (m : State FrameValue). Allows measures is_image m e r) v g.allowed

pub state_of : {old new : ScheduleValue} {e : Event FrameValue} {r : Reply FrameValue FrameValue}
    {m : State FrameValue} → Goes old new e r → machine old ≡ m → machine new ≡ after m e r
state_of {new = new} {e = e} {r = r} g v =
    subst (λ (m : State FrameValue). machine new ≡ after {G = FrameValue} m e r) v g.state

goes : (old new : ScheduleValue) (e : Event FrameValue) (r : Reply FrameValue FrameValue) → IsMachine old
    → Allows measures is_image (machine old) e r → machine new ≡ after (machine old) e r
    → AreWhole new.streams → Goes old new e r
goes old new e r h a s w = record {
  allowed = a;
  state = s;
  kept = record {
    sound = subst Sound (sym s) (step_sound measures is_image (machine old) e r h.sound a);
    fits = subst StillFits (sym s) (fits_step measures is_image (machine old) e r h.sound a h.fits);
    whole = w;
  };
}

abbrev frames : KeptStream → List FrameValue
frames stream = stream.state.frames

-- one stream is another
stream_goes : (old new : ScheduleValue) (s : ℕ) (before stream : KeptStream) (e : Event FrameValue)
    (r : Reply FrameValue FrameValue) → IsMachine old → slice_get old.streams s ≡ Some before
    → (is_some before.leased ≡ is_some before.state.holder → IsWhole stream) → new ≡ with_stream_at s stream old
    → Allows measures is_image (machine old) e r
    → machine (with_stream_at s stream old) ≡ after (machine old) e r → Goes old new e r
stream_goes old new s before stream e r h here w same a led =
    goes old new e r h a (ap machine same ∙ led)
    (subst (λ (x : ScheduleValue). AreWhole x.streams) (sym same)
    (whole_set old.streams s stream h.whole (w (h.whole s before here))))

-- and one lease
lease_goes : (old new : ScheduleValue) (w s : ℕ) (held : Option Held) (before stream : KeptStream)
    (e : Event FrameValue) (r : Reply FrameValue FrameValue) → IsMachine old
    → slice_get old.streams s ≡ Some before
    → (is_some before.leased ≡ is_some before.state.holder → IsWhole stream)
    → new ≡ with_held w held (with_stream_at s stream old) → Allows measures is_image (machine old) e r
    → machine (with_held w held (with_stream_at s stream old)) ≡ after (machine old) e r → Goes old new e r
lease_goes old new w s held before stream e r h here p same a led =
    goes old new e r h a (ap machine same ∙ led)
    (subst (λ (x : ScheduleValue). AreWhole x.streams) (sym same)
    (whole_set old.streams s stream h.whole (p (h.whole s before here))))

pub tick_goes : (old new : ScheduleValue) (to : ℕ) → IsMachine old → tick_refusal old.clock to ≡ None
    → new ≡ record old { clock = to } → Goes old new (Tick to) Ticked
tick_goes old new to h none same =
    goes old new (Tick to) Ticked h (ticked FrameValue FrameValue old.clock to none)
    (ap machine same ∙ after_tick FrameValue (machine old) to)
    (subst (λ (x : ScheduleValue). AreWhole x.streams) (sym same) h.whole)

pub close_goes : (old new : ScheduleValue) (s : ℕ) → IsMachine old
    → HasStream old s (λ stream. IsFalse stream.state.is_closed × (new ≡ with_stream_at s (rules.stream_closed stream) old))
    → Goes old new (Close s) Closing
close_goes old new s h p =
    let l = some_and (slice_get old.streams s) _ p in
    stream_goes old new s l.0 (rules.stream_closed l.0) (Close s) Closing h l.1 (λ w. w) l.2.1
    (close_allowed measures is_image frames old s l.0 l.1 l.2.0)
    (led_close FrameValue frames old s l.0 (rules.stream_closed l.0) l.1 refl)

pub collect_goes : (old new : ScheduleValue) (s : ℕ) (pair : Collected) → IsMachine old
    → HasStream old s (λ stream. IsFirst pair stream × (new ≡ with_stream_at s (rules.stream_collected stream) old))
    → Goes old new (Collect s) (Image (value_of pair.image))
collect_goes old new s pair h p =
    let l = some_and (slice_get old.streams s) _ p in
    let first = l.2.0 in
    stream_goes old new s l.0 (rules.stream_collected l.0) (Collect s) (Image (value_of pair.image)) h l.1 (λ w. w) l.2.1
    (collect_allowed measures is_image frames old s l.0 (source_in pair) (value_of pair.image) l.1 first.less
    first.frame first.image)
    (led_collect FrameValue frames old s (value_of pair.image) l.0 (rules.stream_collected l.0) l.1 refl)

is_there : {X : Type 0} (o : Option X) (P : X → Type 0) → IsSomeAnd o P → is_some o ≡ true
is_there None P h = absurd h
is_there (Some x) P h = refl

fresh_lease : (held : Held) → held.used ≡ 0 → new_lease held.stream held.number held.grant ≡ held
fresh_lease held e = used_more held 0 held.used (sym e)

pub lending_goes : (old new : ScheduleValue) (w : ℕ) (held : Held) → IsMachine old
    → slice_get old.workers w ≡ Some None → IsLending w held old new
    → Goes old new (Lease w) (Leased held.stream held.number held.grant)
lending_goes old new w held h free p =
    let s = held.stream in
    let stream = p.stream_after in
    let led = led_lease FrameValue frames old w s held.number held.grant p.stream_before stream free p.here
    (ap (rules.stream_by frames) p.lent.stream) in
    lease_goes old new w s (Some held) p.stream_before stream (Lease w) (Leased s held.number held.grant) h p.here
    (λ _. is_there stream.leased _ p.lent.started ∙ sym (ap (λ (l : KeptStream). is_some l.state.holder) p.lent.stream))
    p.schedule
    (lease_allowed measures is_image frames old w s held.number held.grant p.stream_before free p.earliest p.here
    p.number p.grant)
    (ap (λ (l : Held). machine (with_held w (Some l) (with_stream_at s stream old))) (sym (fresh_lease held p.none_used))
    ∙ led)

stream_there : (o : Option KeptStream) (x : StreamState FrameValue) → option_map (rules.stream_by frames) o ≡ Some x
    → (stream : KeptStream) × (o ≡ Some stream)
stream_there None x h = absurd (cc)
stream_there (Some stream) x h = (stream, refl)

-- the stream of a lease is out to its worker
its_stream : (old : ScheduleValue) (w : ℕ) (held : Held) → IsMachine old → HasLease old w held
    → (stream : KeptStream) × (slice_get old.streams held.stream ≡ Some stream) × (is_some stream.leased ≡ true)
    × (is_some stream.state.holder ≡ true)
its_stream old w held h mine =
    let x = h.sound.leases w held mine in
    let l = stream_there (slice_get old.streams held.stream) x.0
    (sym (slice_get-map (rules.stream_by frames) old.streams held.stream) ∙ x.1) in
    let its = lease_of (machine old) w held (rules.stream_by frames l.0) h.sound mine
    (stream_here frames old held.stream l.0 l.1) in
    let out : is_some l.0.state.holder ≡ true = ap (λ (o : Option ℕ). is_some o) its.holder in
    (l.0, l.1, h.whole held.stream l.0 l.1 ∙ out, out)

-- what a settlement asks
pub can_settle : (old : ScheduleValue) (w : ℕ) (held : Held) → IsMachine old → HasLease old w held
    → HasStream old held.stream (λ stream. IsSome stream.leased)
can_settle old w held h mine =
    let l = its_stream old w held h mine in and_some (slice_get old.streams held.stream) _ l.0 l.1 l.2

-- what a band asks
pub bands_are_left : (old : ScheduleValue) (w : ℕ) (held : Held) → IsMachine old → HasLease old w held
    → held.used ≢ held.grant → held.used < held.grant
bands_are_left old w held h mine more =
    let l = its_stream old w held h mine in
    let its = lease_of (machine old) w held (rules.stream_by frames l.0) h.sound mine
    (stream_here frames old held.stream l.0 l.1) in
    omega (arith, its.used)

pub can_step : (old : ScheduleValue) (w : ℕ) (held : Held) → IsMachine old → HasLease old w held
    → held.used ≢ held.grant → HasStream old held.stream CanStep
can_step old w held h mine more =
    let l = its_stream old w held h mine in
    let left = band_left (machine old) w held (rules.stream_by frames l.0) h.sound mine
    (stream_here frames old held.stream l.0 l.1) (bands_are_left old w held h mine more) in
    and_some (slice_get old.streams held.stream) _ l.0 l.1
    (record { leased = l.2; left = left.0; charge = left.1; few = left.2 })

pub band_goes : (old new : ScheduleValue) (w : ℕ) (held : Held) → IsMachine old → HasLease old w held
    → held.used ≢ held.grant
    → HasStream old held.stream (λ stream. HasStream new held.stream (λ next. IsSome next.leased
    × (new ≡ with_held w (Some (with_used 1 held)) (with_stream_at held.stream (rules.stream_worked next.leased stream) old))))
    → Goes old new (Band w) Stepped
band_goes old new w held h mine more p =
    let l = some_and (slice_get old.streams held.stream) _ p in
    let n = some_and (slice_get new.streams held.stream) _ l.2 in
    let stream = rules.stream_worked n.0.leased l.0 in
    let its = its_stream old w held h mine in
    let same : its.0 ≡ l.0 = one_item old.streams held.stream held.stream its.0 l.0 refl its.1 l.1 in
    let out = subst (λ (x : KeptStream). is_some x.state.holder ≡ true) same its.3 in
    lease_goes old new w held.stream (Some (with_used 1 held)) l.0 stream (Band w) Stepped h l.1
    (λ _. n.2.0 ∙ sym out) n.2.1
    (band_allowed measures is_image (machine old) w held mine more)
    (led_band FrameValue frames old w held l.0 stream mine l.1 refl)

pub returned_goes : (old new : ScheduleValue) (w : ℕ) (held : Held) → IsMachine old → HasLease old w held
    → HasStream old held.stream (λ stream. (stream.state.done ≢ steps stream.state.spec)
    × (new ≡ with_held w None (with_stream_at held.stream (rules.stream_returned stream) old)))
    → Goes old new (Settle w) Returned
returned_goes old new w held h mine p =
    let l = some_and (slice_get old.streams held.stream) _ p in
    let right : Returned ≡ settle_reply (rules.stream_by frames l.0) =
    rw (test_no l.0.state.done (steps l.0.state.spec) l.2.0) refl in
    lease_goes old new w held.stream None l.0 (rules.stream_returned l.0) (Settle w) Returned h l.1 (λ _. refl) l.2.1
    (settle_allowed measures is_image frames old w held l.0 Returned mine l.1 right)
    (led_settle FrameValue frames old w held l.0 (rules.stream_returned l.0) Returned mine l.1 right refl)

pub finished_goes : (old new : ScheduleValue) (w number : ℕ) (held : Held) → IsMachine old
    → HasLease old w held → HasStream old held.stream (λ stream. HasStream new held.stream (λ next.
    (stream.state.done ≡ steps stream.state.spec) × (number ≡ stream.state.finished)
    × IsSomeAnd stream.leased (λ job. GainsImage job stream.images next.images)
    × (new ≡ with_held w None (with_stream_at held.stream (rules.stream_finished next.images stream) old))))
    → Goes old new (Settle w) (Finished number)
finished_goes old new w number held h mine p =
    let l = some_and (slice_get old.streams held.stream) _ p in
    let n = some_and (slice_get new.streams held.stream) _ l.2 in
    let stream = rules.stream_finished n.0.images l.0 in
    let right : Finished number ≡ settle_reply (rules.stream_by frames l.0) =
    rw (test_yes l.0.state.done (steps l.0.state.spec) n.2.0) (ap Finished n.2.1) in
    lease_goes old new w held.stream None l.0 stream (Settle w) (Finished number) h l.1 (λ _. refl) n.2.3
    (settle_allowed measures is_image frames old w held l.0 (Finished number) mine l.1 right)
    (led_settle FrameValue frames old w held l.0 stream (Finished number) mine l.1 right refl)

-- what the test of a frame's geometry says of its size
abbrev pub IsSized : Geometry → KeptStream → Bool → Type 0
IsSized geometry stream b = IsTrue b ↔ (geometry ≡ stream.state.spec.geometry)

abbrev pub Found : ScheduleValue → ℕ → Geometry → Option Refusal → Type 0
Found old s geometry found =
    MatchOption (slice_get old.streams s) (found ≡ Some refusals.NoStream) (λ stream.
    (b : Bool) × IsSized geometry stream b × (found ≡ arrival_refusal b stream.state))

sized : (geometry : Geometry) (f : FrameValue) → geometry ≡ f.geometry
    → (stream : KeptStream) (b : Bool) → IsSized geometry stream b → measures stream.state.spec f b
sized geometry f e stream b h = subst (λ (g : Geometry). IsTrue b ↔ (g ≡ stream.state.spec.geometry)) e h

pub given_back_allowed : (old : ScheduleValue) (s : ℕ) (f : FrameValue) (k : Refusal) (geometry : Geometry)
    (found : Option Refusal)
    → geometry ≡ f.geometry → found ≡ Some k → Found old s geometry found
    → Allows measures is_image (machine old) (Arrive s f) (GivenBack k f)
given_back_allowed old s f k geometry found q e h =
    arrive_refused measures is_image frames old s f k found (IsSized geometry) (sized geometry f q) e h

pub no_memory_allowed : (old : ScheduleValue) (s : ℕ) (f : FrameValue) (geometry : Geometry)
    (found : Option Refusal)
    → geometry ≡ f.geometry → found ≡ None → Found old s geometry found
    → Allows measures is_image (machine old) (Arrive s f) (GivenBack refusals.NoMemory f)
no_memory_allowed old s f geometry found q e h =
    arrive_chosen measures is_image frames old s f (GivenBack refusals.NoMemory f) found (IsSized geometry)
    (sized geometry f q) e h (λ stream here. inr refl)

pub arrive_goes : (old new : ScheduleValue) (s n : ℕ) (f : FrameValue) (job : JobValue) (geometry : Geometry)
    (found : Option Refusal) → IsMachine old
    → geometry ≡ f.geometry → found ≡ None → Found old s geometry found → source_of job ≡ f
    → HasStream old s (λ stream. (n ≡ stream.state.accepted)
    × (new ≡ with_stream_at s (rules.stream_offered old.clock job stream) old))
    → Goes old new (Arrive s f) (Accepted n)
arrive_goes old new s n f job geometry found h q e k source p =
    let l = some_and (slice_get old.streams s) _ p in
    let number : (stream : KeptStream) → slice_get old.streams s ≡ Some stream → Accepted n ≡ Accepted stream.state.accepted =
    λ stream here. ap Accepted (l.2.0
    ∙ ap (λ (x : KeptStream). x.state.accepted) (one_item old.streams s s l.0 stream refl l.1 here)) in
    stream_goes old new s l.0 (rules.stream_offered old.clock job l.0) (Arrive s f) (Accepted n) h l.1 (λ w. w) l.2.1
    (arrive_chosen measures is_image frames old s f (Accepted n) found (IsSized geometry) (sized geometry f q) e k
    (λ stream here. inl (number stream here)))
    (led_arrive FrameValue frames old s n f l.0 (rules.stream_offered old.clock job l.0) l.1
    (ap (λ (g : FrameValue). did (rules.stream_by frames l.0) (Came old.clock g)) source))

-- what is refused leaves all as it is
refused_goes : (old new : ScheduleValue) (e : Event FrameValue) (k : Refusal) → IsMachine old
    → Allows measures is_image (machine old) e (Refused k) → new ≡ old → Goes old new e (Refused k)
refused_goes old new e k h a same =
    goes old new e (Refused k) h a (ap machine same ∙ after_refused FrameValue (machine old) e k)
    (subst (λ (x : ScheduleValue). AreWhole x.streams) (sym same) h.whole)

pub close_not : (old new : ScheduleValue) (s : ℕ) (k : Refusal) → IsMachine old
    → (new ≡ old) × MatchOption (slice_get old.streams s) (k ≡ refusals.NoStream)
    (λ stream. IsTrue stream.state.is_closed × (k ≡ refusals.AlreadyClosed)) → Goes old new (Close s) (Refused k)
close_not old new s k h p =
    refused_goes old new (Close s) k h (close_refused measures is_image frames old s k p.1) p.0

pub collect_not : (old new : ScheduleValue) (s : ℕ) (k : Refusal) → IsMachine old
    → RefusesCollect old s k × (new ≡ old) → Goes old new (Collect s) (Refused k)
collect_not old new s k h p =
    refused_goes old new (Collect s) k h (collect_refused measures is_image frames old s k p.0) p.1

pub lease_not : (old new : ScheduleValue) (w : ℕ) (k : Refusal) → IsMachine old
    → RefusesLease old w k × (new ≡ old) → Goes old new (Lease w) (Refused k)
lease_not old new w k h p =
    refused_goes old new (Lease w) k h (lease_refused measures is_image frames old w k p.0) p.1

-- what a schedule asks before it answers a stream that is to be admitted
pub held_fits : (old : ScheduleValue) → IsMachine old → admission.Fits (held_by old)
held_fits old h = subst admission.Fits (held_same frames old) h.fits

-- a new stream has no job out
whole_pushed : (streams : List KeptStream) (spec : StreamSpec) → AreWhole streams → AreWhole (streams ++ opened spec ∷ [])
whole_pushed streams spec w s stream e =
    elim (push_or streams (opened spec) s stream e) [
      | inl old ↦ w s stream old
      | inr new ↦ subst IsWhole (sym new.1) refl
    ]

pub admit_goes : (old new : ScheduleValue) (spec : StreamSpec) (s : ℕ) → IsMachine old
    → IsAdmitAnswer old spec None → (s ≡ length old.streams) × (new ≡ with_stream spec old)
    → Goes old new (Admit spec) (Admitted s)
admit_goes old new spec s h can p =
    goes old new (Admit spec) (Admitted s) h (admit_allowed measures is_image frames old spec s can p.0)
    (ap machine p.1 ∙ led_admit FrameValue frames old spec s refl)
    (subst (λ (x : ScheduleValue). AreWhole x.streams) (sym p.1) (whole_pushed old.streams spec h.whole))

pub admit_not : (old new : ScheduleValue) (spec : StreamSpec) (k : Refusal) → IsMachine old
    → Allows measures is_image (machine old) (Admit spec) (SpecBack k spec) → new ≡ old
    → Goes old new (Admit spec) (SpecBack k spec)
admit_not old new spec k h a same =
    goes old new (Admit spec) (SpecBack k spec) h a (ap machine same ∙ after_spec_back FrameValue (machine old) spec k)
    (subst (λ (x : ScheduleValue). AreWhole x.streams) (sym same) h.whole)

pub admit_refused_goes : (old new : ScheduleValue) (spec : StreamSpec) (k : Refusal) → IsMachine old
    → IsAdmitAnswer old spec (Some k) → new ≡ old → Goes old new (Admit spec) (SpecBack k spec)
admit_refused_goes old new spec k h answer same =
    admit_not old new spec k h (admit_refused measures is_image frames old spec k answer) same

pub admit_unfed_goes : (old new : ScheduleValue) (spec : StreamSpec) → IsMachine old
    → IsAdmitAnswer old spec None → new ≡ old → Goes old new (Admit spec) (SpecBack refusals.NoMemory spec)
admit_unfed_goes old new spec h can same =
    admit_not old new spec refusals.NoMemory h (admit_unfed measures is_image frames old spec can) same
