-- What an accepted offer makes of a desk.
use Rattle.std.proofs.Common.{ℕ, ◌+◌, ◌-◌, ◌≡◌, ◌≤◌, ◌<◌, inl, max, nat_eq, nat_le, nat_lt, Bool, true, false}
use Rattle.std.proofs.Common.{IsFalse, Some, None, slice_get, if◌then◌else◌, refl, sym, ◌∙◌}
use Rattle.std.proofs.Common.{ap, subst, arith}
use Rattle.std.proofs.lemmas.Bool.Decides.{nat_tests}
use Rattle.cbs_account.specs.declared.limits.TheConstants.{LAST_MOMENT}
use Rattle.lease.specs.Job.{JobValue}
use Rattle.serve_core.specs.Bare.{Blank, measures_any, is_any_image}
use Rattle.serve_core.specs.Counts.{Came}
use Rattle.serve_core.specs.Desk.{IsFreshFor, LeadsDesk, bare_frames, desk_state, offered, ticked}
use Rattle.serve_core.specs.DeskInside.{IsDesk}
use Rattle.serve_core.specs.Events.{Accepted, Arrive, Reply, Start, Then, Tick, Ticked}
use Rattle.serve_core.specs.Reached.{IsReached}
use Rattle.serve_core.specs.Rules.{Allows, AllowsArrive, arrival_refusal, tick_reply}
use Rattle.serve_core.specs.Schedule.{HasStream, ScheduleValue, stream_by, stream_offered, with_stream_at}
use Rattle.serve_core.specs.States.{StreamState, did}
use Rattle.serve_core.specs.Streams.{HasPlace, IsFresh, KeptStream}
use Rattle.serve_core.specs.Ticked.{at_moment}
use Rattle.serve_core.proofs.Calls.Desks.{away_set, blanks_more, desk_on, led_then, stream_sound, with_frames}
use Rattle.serve_core.proofs.Events.Changes.{after_tick}
use Rattle.serve_core.proofs.Events.Soundness.{one_item}
use Rattle.serve_core.proofs.Items.Options.{some_and}
use Rattle.serve_core.proofs.Schedules.Lifts.{led_arrive, stream_here}
use Rattle.serve_core.proofs.Transcripts.Reached.{over_is, reached_is}

no_less : (a b : ℕ) → nat_lt a b ≡ true → nat_lt b a ≡ false
no_less a b h = grind (arith, nat_tests)

no_more : (a b : ℕ) → a ≤ b → nat_lt b a ≡ false
no_more a b h = grind (arith, nat_tests)

later : (a b : ℕ) → nat_lt a b ≡ true → max a b ≡ b
later a b h = grind (arith, nat_tests)

sooner : (a b : ℕ) → nat_lt a b ≡ false → max a b ≡ a
sooner a b h = grind (arith, nat_tests)

tick_allowed : (clock at : ℕ) → nat_lt at clock ≡ false → nat_lt LAST_MOMENT at ≡ false
    → let r : Reply Blank Blank = Ticked in r ≡ tick_reply clock at
tick_allowed clock at p e = rw (p, e) refl

pub at_clock : (x : ScheduleValue) (t u : ℕ) → t ≡ u
    → let y : ScheduleValue = record x { clock = t } in let z : ScheduleValue = record x { clock = u } in y ≡ z
at_clock x t u e = cc

ticked_by : (x : ScheduleValue) (at : ℕ) (b : Bool) → at ≤ LAST_MOMENT → nat_lt x.clock at ≡ b
    → LeadsDesk x (if b then Then Start (Tick at) Ticked else Start) (at_moment at x)
ticked_by x at true l e =
    let same : at_moment at x ≡ (let y : ScheduleValue = record x { clock = at } in y) =
    at_clock x (max x.clock at) at (later x.clock at e) in (
      (tt, tick_allowed x.clock at (no_less x.clock at e) (no_more at LAST_MOMENT l)),
      sym (ap desk_state same ∙ after_tick Blank (desk_state x) at),
    )
ticked_by x at false l e = (tt, ap desk_state (at_clock x x.clock (max x.clock at) (sym (sooner x.clock at e))))

pub moment_led : (x : ScheduleValue) (at : ℕ) → at ≤ LAST_MOMENT → LeadsDesk x (ticked x.clock at) (at_moment at x)
moment_led x at l = ticked_by x at (nat_lt x.clock at) l refl

-- what is reached is reached where the clock goes on
pub moment_reached : (x : ScheduleValue) (at : ℕ) → at ≤ LAST_MOMENT → IsReached measures_any is_any_image (desk_state x)
    → IsReached measures_any is_any_image (desk_state (at_moment at x))
moment_reached x at l r =
    reached_is measures_any is_any_image (desk_state x) (desk_state (at_moment at x)) (ticked x.clock at)
    ((over_is measures_any is_any_image (desk_state x) (desk_state (at_moment at x)) (ticked x.clock at)).1
    (r, moment_led x at l))

not_equal : (a b : ℕ) → a < b → nat_eq a b ≡ false
not_equal a b h = grind (arith, nat_tests)

has_place : (f q a : ℕ) → f ≤ a → a < f + q → nat_le q (a - f) ≡ false
has_place f q a l h = grind (arith, nat_tests)

-- nothing refuses a frame that has the stream's size and a place
no_refusal : (x : StreamState Blank) → IsFalse x.is_closed → x.accepted < x.spec.frames
    → x.finished ≤ x.accepted → x.accepted < x.finished + x.spec.queue → arrival_refusal true x ≡ None
no_refusal x c f l p =
    rw (c, not_equal x.accepted x.spec.frames f, has_place x.finished x.spec.queue x.accepted l p) refl

arrive_allowed : (x : StreamState Blank) (n : ℕ) → arrival_refusal true x ≡ None → n ≡ x.accepted
    → let r : Reply Blank Blank = Accepted n in AllowsArrive true x tt r
arrive_allowed x n e same = rw e (inl (ap Accepted same))

came_stream : (x : ScheduleValue) (s t : ℕ) (job : JobValue) (stream : KeptStream) → IsDesk x
    → slice_get x.streams s ≡ Some stream
    → stream_by bare_frames (stream_offered t job stream) ≡ did (stream_by bare_frames stream) (Came t tt)
came_stream x s t job stream h e =
    let sound = stream_sound x s stream h e in
    let l : stream.state.collected ≤ stream.state.accepted = omega (arith, sound.finished, sound.in_order) in
    with_frames (did (stream_by bare_frames stream) (Came t tt)) _ _
    (blanks_more stream.state.accepted stream.state.collected l)

-- a frame is accepted
accepted_at : (x z : ScheduleValue) (s at n : ℕ) (job : JobValue) → IsDesk x → at ≤ LAST_MOMENT
    → HasStream x s (λ stream. HasPlace stream.state × IsFresh stream.state.spec.chain job)
    → let y : ScheduleValue = at_moment at x in
    HasStream y s (λ stream. (n ≡ stream.state.accepted) × (z ≡ with_stream_at s (stream_offered y.clock job stream) y))
    → LeadsDesk x (offered x.clock s at n) z × IsDesk z
accepted_at x z s at n job h l place took =
    let y : ScheduleValue = at_moment at x in
    let a = some_and (slice_get x.streams s) _ place in
    let b = some_and (slice_get x.streams s) _ took in
    let same : a.0 ≡ b.0 = one_item x.streams s s a.0 b.0 refl a.1 b.1 in
    let p : HasPlace b.0.state = subst (λ (stream : KeptStream). HasPlace stream.state) same a.2.0 in
    let sound = stream_sound x s b.0 h b.1 in
    let none = no_refusal (stream_by bare_frames b.0) p.not_closed p.few (omega (arith, sound.finished)) p.places in
    let new : KeptStream = stream_offered y.clock job b.0 in
    let allowed : Allows measures_any is_any_image (desk_state y) (Arrive s tt) (Accepted n) =
    rw (stream_here bare_frames y s b.0 b.1) (true, tt, arrive_allowed (stream_by bare_frames b.0) n none b.2.0) in
    let led : LeadsDesk x (offered x.clock s at n) (with_stream_at s new y) =
    led_then x y (with_stream_at s new y) (ticked x.clock at) (Arrive s tt) (Accepted n) (moment_led x at l) allowed
    (led_arrive Blank bare_frames y s n tt b.0 new b.1 (came_stream x s y.clock job b.0 h b.1)) in
    rw b.2.1 (
      led,
      desk_on x (with_stream_at s new y) (offered x.clock s at n) h led
          (away_set x.streams s new h.away (h.away s b.0 b.1)) h.unused,
    )

pub accepted : (x y z : ScheduleValue) (s at n : ℕ) (job : JobValue) → IsDesk x → at ≤ LAST_MOMENT
    → HasStream x s (λ stream. HasPlace stream.state × IsFresh stream.state.spec.chain job)
    → y ≡ at_moment at x
    → HasStream y s (λ stream. (n ≡ stream.state.accepted) × (z ≡ with_stream_at s (stream_offered y.clock job stream) y))
    → LeadsDesk x (offered x.clock s at n) z × IsDesk z
accepted x y z s at n job h l place same took =
    accepted_at x z s at n job h l place
    (subst (λ (y : ScheduleValue). HasStream y s (λ stream. (n ≡ stream.state.accepted)
    × (z ≡ with_stream_at s (stream_offered y.clock job stream) y))) same took)

-- the stream's chain is known
pub fresh_for : (x : ScheduleValue) (s : ℕ) (job : JobValue)
    → HasStream x s (λ stream. IsFresh stream.state.spec.chain job) → IsFreshFor x s job
fresh_for x s job h stream e =
    let a = some_and (slice_get x.streams s) _ h in
    let same : a.0 ≡ stream = one_item x.streams s s a.0 stream refl a.1 e in
    subst (λ (stream : KeptStream). IsFresh stream.state.spec.chain job) same a.2
