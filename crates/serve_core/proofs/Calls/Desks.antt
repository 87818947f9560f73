-- What one change of a stream makes of a desk.
use Rattle.std.proofs.Common.{ℕ, zero, suc, ◌+◌, ◌-◌, ◌≡◌, ◌≤◌, ◌<◌, ◌⊎◌, inl, inr, List, [], ◌∷◌}
use Rattle.std.proofs.Common.{◌++◌, length, drop, map, replicate, slice_get, slice_set, Some, None, Result, Ok, Err}
use Rattle.std.specs.Prelude.{⊤}
use Rattle.std.proofs.Common.{IsFalse, IfOk, IfErr, OnOk, refl, sym, ◌∙◌, ap, subst, arith}
use Rattle.cbs_account.specs.Admission as admission
use Rattle.serve_core.specs.declared.collected.Collected.{Collected}
use Rattle.serve_core.specs.declared.refusal.Refusal.{Refusal}
use Rattle.serve_core.specs.declared.refusal.Refusal.TheVariants as refusals
use Rattle.serve_core.specs.Bare.{Blank, measures_any, is_any_image}
use Rattle.serve_core.specs.Counts.{Taken}
use Rattle.serve_core.specs.Desk.{LeadsDesk, RefusesAdmission, RefusesClose, bare_frames, blanks, desk_state, one}
use Rattle.serve_core.specs.DeskInside.{AreAway, AreUnused, IsDesk}
use Rattle.serve_core.specs.Events.{Admit, Admitted, Close, Closing, Collect, Event, Image, Reply, Then}
use Rattle.serve_core.specs.Events.{Transcript}
use Rattle.serve_core.specs.Leads.{opening_state}
use Rattle.serve_core.specs.Released.{StillFits}
use Rattle.serve_core.specs.Rules.{Allows}
use Rattle.serve_core.specs.Schedule.{HasStream, IsAdmitAnswer, IsFirst, RefusesCollect, ScheduleValue, held_by}
use Rattle.serve_core.specs.Schedule.{opened_schedule, stream_by, stream_closed, stream_collected, with_stream, with_stream_at}
use Rattle.serve_core.specs.Setup.{IsSetup, Setup, StreamSpec}
use Rattle.serve_core.specs.Sound.{IsSound, Sound}
use Rattle.serve_core.specs.States.{State, StreamState, after, did}
use Rattle.serve_core.specs.Streams.{KeptStream, opened}
use Rattle.serve_core.proofs.Events.Kept.{opening_sound}
use Rattle.serve_core.proofs.Events.Releases.{fits_from, fits_opening}
use Rattle.serve_core.proofs.Items.Lists.{push_or}
use Rattle.serve_core.proofs.Items.Options.{some_and}
use Rattle.serve_core.proofs.Rules.Allowing.{admit_allowed, close_allowed, collect_allowed, held_same}
use Rattle.serve_core.proofs.Schedules.Lifts.{led_admit, led_close, led_collect, stream_here}
use Rattle.serve_core.proofs.Schedules.Opened.{opening_is}
use Rattle.serve_core.proofs.Transcripts.Openings.{sound_from}

-- a changed place holds what was put there
pub set_or : {X : Type 0} (xs : List X) (s t : ℕ) (y z : X) → slice_get (slice_set xs s y) t ≡ Some z
    → (z ≡ y) ⊎ (slice_get xs t ≡ Some z)
set_or [] s t y z e = inr e
set_or (x ∷ xs) zero zero y z e = inl (cc)
set_or (x ∷ xs) zero (suc t) y z e = inr e
set_or (x ∷ xs) (suc s) zero y z e = inr e
set_or (x ∷ xs) (suc s) (suc t) y z e = set_or xs s t y z e

pub away_set : (streams : List KeptStream) (s : ℕ) (new : KeptStream) → AreAway streams → new.leased ≡ None
    → AreAway (slice_set streams s new)
away_set streams s new h n t stream e =
    elim (set_or streams s t new stream e) [ inl same ↦ rw same n | inr old ↦ h t stream old ]

-- fewer blanks, and one more
blanks_first : (n : ℕ) → drop 1 (blanks n) ≡ blanks (n - 1)
blanks_first zero = refl
blanks_first (suc n) = ap blanks (let e : n ≡ suc n - 1 = omega arith in e)

pub blanks_fewer : (a c : ℕ) → blanks (a - (c + 1)) ≡ drop 1 (blanks (a - c))
blanks_fewer a c =
    sym (blanks_first (a - c) ∙ ap blanks (let e : a - c - 1 ≡ a - (c + 1) = omega arith in e))

blanks_last : (n : ℕ) → blanks (suc n) ≡ blanks n ++ tt ∷ []
blanks_last zero = refl
blanks_last (suc n) = ap (λ (xs : List Blank). tt ∷ xs) (blanks_last n)

pub blanks_more : (a c : ℕ) → c ≤ a → blanks (a + 1 - c) ≡ blanks (a - c) ++ tt ∷ []
blanks_more a c l =
    ap blanks (let e : a + 1 - c ≡ suc (a - c) = omega arith in e) ∙ blanks_last (a - c)

blank_here : (n : ℕ) → slice_get (blanks (suc n)) 0 ≡ Some tt
blank_here n = refl

pub blank_first : (a c : ℕ) → c < a → slice_get (blanks (a - c)) 0 ≡ Some tt
blank_first a c l =
    let e : a - c ≡ suc (a - (c + 1)) = omega arith in
    ap (λ (n : ℕ). slice_get (blanks n) 0) e ∙ blank_here (a - (c + 1))

pub with_frames : (x : StreamState Blank) (fs gs : List Blank) → fs ≡ gs
    → let v : StreamState Blank = record x { frames = fs } in
    let w : StreamState Blank = record x { frames = gs } in v ≡ w
with_frames x fs gs e = cc

-- one event leads on
pub led_one : (x y : ScheduleValue) (e : Event Blank) (r : Reply Blank Blank)
    → Allows measures_any is_any_image (desk_state x) e r → desk_state y ≡ after (desk_state x) e r
    → LeadsDesk x (one e r) y
led_one x y e r a n = ((tt, a), sym n)

pub desk_on : (x y : ScheduleValue) (p : Transcript Blank Blank) → IsDesk x → LeadsDesk x p y
    → AreAway y.streams → AreUnused y.workers → IsDesk y
desk_on x y p h led a u =
    record {
      sound = sound_from measures_any is_any_image (desk_state x) (desk_state y) p h.sound led;
      fits = fits_from measures_any is_any_image (desk_state x) (desk_state y) p h.sound h.fits led;
      away = a;
      unused = u;
    }

-- and so it does where one stream changes
stream_on : (x : ScheduleValue) (s : ℕ) (new : KeptStream) (e : Event Blank) (r : Reply Blank Blank) → IsDesk x
    → new.leased ≡ None → LeadsDesk x (one e r) (with_stream_at s new x) → IsDesk (with_stream_at s new x)
stream_on x s new e r h n led =
    desk_on x (with_stream_at s new x) (one e r) h led (away_set x.streams s new h.away n) h.unused

shut_stream : (x : ScheduleValue) (s : ℕ) (stream : KeptStream) → slice_get x.streams s ≡ Some stream
    → IsFalse stream.state.is_closed
    → LeadsDesk x (one (Close s) Closing) (with_stream_at s (stream_closed stream) x)
shut_stream x s stream e f =
    led_one x (with_stream_at s (stream_closed stream) x) (Close s) Closing
    (close_allowed measures_any is_any_image bare_frames x s stream e f)
    (led_close Blank bare_frames x s stream (stream_closed stream) e refl)

-- a close, accepted or not
pub closed : (x y : ScheduleValue) (s : ℕ) (r : Result ⊤ Refusal) → IsDesk x
    → OnOk r (HasStream x s (λ stream. IsFalse stream.state.is_closed × (y ≡ with_stream_at s (stream_closed stream) x)))
    → IfErr r (λ e. (y ≡ x) × RefusesClose x s e)
    → OnOk r (LeadsDesk x (one (Close s) Closing) y) × IsDesk y
closed x y s (Ok u) h ok err =
    let a = some_and (slice_get x.streams s) _ ok in
    let led = shut_stream x s a.0 a.1 a.2.0 in
    let new = a.2.1 in
    rw new (led, stream_on x s (stream_closed a.0) (Close s) Closing h (h.away s a.0 a.1) led)
closed x y s (Err e) h ok err = (tt, rw err.0 h)

-- what a desk knows of a stream
pub stream_sound : (x : ScheduleValue) (s : ℕ) (stream : KeptStream) → IsDesk x → slice_get x.streams s ≡ Some stream
    → IsSound x.clock (stream_by bare_frames stream)
stream_sound x s stream h e = h.sound.streams s (stream_by bare_frames stream) (stream_here bare_frames x s stream e)

taken_stream : (x : ScheduleValue) (s : ℕ) (stream : KeptStream) → IsDesk x → slice_get x.streams s ≡ Some stream
    → stream.state.collected < stream.state.finished
    → LeadsDesk x (one (Collect s) (Image tt)) (with_stream_at s (stream_collected stream) x)
taken_stream x s stream h e l =
    let some : stream.state.collected < stream.state.accepted = omega (arith, (stream_sound x s stream h e).finished) in
    let new : stream_by bare_frames (stream_collected stream) ≡ did (stream_by bare_frames stream) Taken =
    with_frames (did (stream_by bare_frames stream) Taken) _ _
    (blanks_fewer stream.state.accepted stream.state.collected) in
    led_one x (with_stream_at s (stream_collected stream) x) (Collect s) (Image tt)
    (collect_allowed measures_any is_any_image bare_frames x s stream tt tt e l
    (blank_first stream.state.accepted stream.state.collected some) tt)
    (led_collect Blank bare_frames x s tt stream (stream_collected stream) e new)

-- a collection, accepted or not
pub collected : (x y : ScheduleValue) (s : ℕ) (r : Result Collected Refusal) → IsDesk x
    → IfOk r (λ pair. HasStream x s (λ stream. IsFirst pair stream × (y ≡ with_stream_at s (stream_collected stream) x)))
    → IfErr r (λ e. RefusesCollect x s e × (y ≡ x))
    → OnOk r (LeadsDesk x (one (Collect s) (Image tt)) y) × IsDesk y
collected x y s (Ok pair) h ok err =
    let a = some_and (slice_get x.streams s) _ ok in
    let led = taken_stream x s a.0 h a.1 a.2.0.less in
    let new = a.2.1 in
    rw new (led, stream_on x s (stream_collected a.0) (Collect s) (Image tt) h (h.away s a.0 a.1) led)
collected x y s (Err e) h ok err = (tt, rw err.1 h)

-- one event more leads on
pub led_then : (x y z : ScheduleValue) (p : Transcript Blank Blank) (e : Event Blank) (r : Reply Blank Blank)
    → LeadsDesk x p y → Allows measures_any is_any_image (desk_state y) e r
    → desk_state z ≡ after (desk_state y) e r → LeadsDesk x (Then p e r) z
led_then x y z p e r led a n = (
  (led.0, subst (λ (m : State Blank). Allows measures_any is_any_image m e r) (sym led.1) a),
  ap (λ (m : State Blank). after m e r) led.1 ∙ sym n,
)

away_opened : (specs : List StreamSpec) → AreAway (map opened specs)
away_opened [] s stream e = absurd (cc)
away_opened (spec ∷ specs) zero stream e =
    subst (λ (stream : KeptStream). stream.leased ≡ None) (let same : opened spec ≡ stream = cc in same) refl
away_opened (spec ∷ specs) (suc s) stream e = away_opened specs s stream e

unused_opened : (n : ℕ) → AreUnused (replicate n None)
unused_opened zero w held e = absurd (cc)
unused_opened (suc n) zero held e = absurd (cc)
unused_opened (suc n) (suc w) held e = unused_opened n w held e

-- a desk before any event
pub desk_opened : (setup : Setup) → desk_state (opened_schedule setup) ≡ opening_state Blank Blank setup
desk_opened setup = opening_is Blank bare_frames setup (λ spec. refl)

pub is_desk_opened : (setup : Setup) → IsSetup setup → IsDesk (opened_schedule setup)
is_desk_opened setup v = record {
  sound = subst Sound (sym (desk_opened setup)) (opening_sound measures_any is_any_image setup v.0);
  fits = subst StillFits (sym (desk_opened setup)) (fits_opening measures_any is_any_image setup v.1);
  away = away_opened setup.streams;
  unused = unused_opened setup.workers;
}

-- what a desk's schedule asks before it answers a stream that is to be admitted
pub desk_fits : (x : ScheduleValue) → IsDesk x → admission.Fits (held_by x)
desk_fits x h = subst admission.Fits (held_same bare_frames x) h.fits

away_pushed : (streams : List KeptStream) (spec : StreamSpec) → AreAway streams → AreAway (streams ++ opened spec ∷ [])
away_pushed streams spec h s stream e =
    elim (push_or streams (opened spec) s stream e) [
      | inl old ↦ h s stream old
      | inr new ↦ subst (λ (stream : KeptStream). stream.leased ≡ None) (sym new.1) refl
    ]

-- one stream more
pub admitted : (x y : ScheduleValue) (spec : StreamSpec) (s : ℕ) → IsDesk x → IsAdmitAnswer x spec None
    → (s ≡ length x.streams) × (y ≡ with_stream spec x)
    → LeadsDesk x (one (Admit spec) (Admitted s)) y × IsDesk y
admitted x y spec s h can p =
    let led = led_one x (with_stream spec x) (Admit spec) (Admitted s)
    (admit_allowed measures_any is_any_image bare_frames x spec s can p.0)
    (led_admit Blank bare_frames x spec s refl) in
    let new = p.1 in
    rw new (
      led,
      desk_on x (with_stream spec x) (one (Admit spec) (Admitted s)) h led
          (away_pushed x.streams spec h.away) h.unused,
    )

-- how a desk answers a stream that can be admitted: by its number, or by want of memory
pub record AnswersAdmission (x y : ScheduleValue) (spec : StreamSpec) (r : Result ℕ (Refusal × StreamSpec)) : Type 0 where
  pub events : IfOk r (λ s. LeadsDesk x (one (Admit spec) (Admitted s)) y)
  pub answer : OnOk r (IsAdmitAnswer x spec None)
  pub stream : IfOk r (λ s. (s ≡ length x.streams) × (y ≡ with_stream spec x))
  pub refused : IfErr r (λ e. RefusesAdmission x spec e.0)
  pub back : IfErr r (λ e. (e.1 ≡ spec) × (y ≡ x))
  pub kept : IsDesk y

pub added : (x y : ScheduleValue) (spec : StreamSpec) (s : ℕ) → IsDesk x → IsAdmitAnswer x spec None
    → (s ≡ length x.streams) × (y ≡ with_stream spec x) → AnswersAdmission x y spec (Ok s)
added x y spec s h can p =
    let new = admitted x y spec s h can p in
    record {
      events = new.0;
      answer = can;
      stream = p;
      refused = tt;
      back = tt;
      kept = new.1;
    }

pub unfed : (x y : ScheduleValue) (spec back : StreamSpec) → IsDesk x → IsAdmitAnswer x spec None
    → (back ≡ spec) × (y ≡ x) → AnswersAdmission x y spec (Err (refusals.NoMemory, back))
unfed x y spec back h can p = record {
  events = tt;
  answer = tt;
  stream = tt;
  refused = inr (refl, can);
  back = p;
  kept = rw p.1 h;
}
