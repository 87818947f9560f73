-- How the streams of a session go on that come and go.
use Rattle.std.specs.Prelude.{drop, reverse, slice_get}
use Rattle.std.specs.List.{AllByRecursion, AllZip, Any, Contains}
use Rattle.std.specs.Vec.{vec_len}
use Rattle.std.proofs.Common.{◌≡◌, ℕ, zero, suc, ◌<◌, ◌≤◌, ◌+◌, List, [], ◌∷◌, ◌++◌, length, get_or, map, Option, Some, None, IfSome, false}
use Rattle.std.proofs.Common.{inl, refl, sym, ap, ◌∙◌, subst, arith}
use Rattle.frame_view.specs.declared.geometry.Geometry.{Geometry}
use Rattle.serve_core.specs.Bare.{measures_any, is_any_image}
use Rattle.serve_core.specs.Desk.{desk_state}
use Rattle.serve_core.specs.Reached.{IsReached}
use Rattle.serve_core.specs.Schedule.{HasStream, ScheduleValue, opened_schedule}
use Rattle.serve_core.specs.Setup.{IsSetup, Setup, StreamSpec, setup_of}
use Rattle.serve_hub.specs.declared.entry.Act.{Act}
use Rattle.serve_hub.specs.declared.entry.Seat.TheVariants as numbered
use Rattle.serve_hub.specs.declared.moments.Moments.{Moments}
use Rattle.serve_hub.specs.Books.{BookValue, IsBook, opening_of, specs_of}
use Rattle.serve_hub.specs.Calls.{Admits}
use Rattle.serve_hub.specs.Ends.{AreFree, AreStreamCalls, AreStreamsOf, ClockReached, ClocksReached, HaveStreams, IsStreamOf, acts_of}
use Rattle.serve_hub.specs.Ends as hubs
use Rattle.serve_hub.specs.Seats.{StreamRest, StreamSeatValue, left_by, opened_rest, seat_over, spec_told}
use Rattle.serve_client.specs.Clients.{AreAtMoments, IsUnclosed, closes_in, offers_in}
use Rattle.serve_client.specs.ClientInside.{KeepsMoments}
use Rattle.serve_client.specs.Rests.{IsFresh, Unbegun}
use Rattle.serve_client.specs.Streams as sessions
use Rattle.serve_client.specs.Workers.{HaveSpent}
use Rattle.serve_client.specs.Streams.{StandsAt, StreamValue, stream_stop}
use Rattle.serve_client.proofs.Staying.{Stays-same}
use Rattle.serve_work.specs.declared.live.guests.Guest.{Guest}
use Rattle.serve_work.specs.declared.live.opening.Hall.{Hall}
use Rattle.serve_work.specs.History.{EpochValue, HasEnded, IsEpochBy, IsGone, IsHistory, MayOpenFor, OpensBehind, OpensFor, Terms}
use Rattle.serve_work.specs.Intervals.{HasNoCalls}
use Rattle.serve_work.specs.Live.{AreAllIn, IsBehind, IsNewIn, IsOfSpec, IsRequest, IsSeatFor, Waiting, acts_by, start_with}
use Rattle.serve_work.specs.LiveInside.{AllAt, AreSeated, Begins, HadTurn, HasPlaces, HasTurn, IsGuestAt, IsGuestIn, Stood}
use Rattle.serve_work.specs.LiveInside.{TakesSeat, guests_of, helds_of, nobody, tickets_of}
use Rattle.serve_work.specs.Entries.{AreTimed}
use Rattle.serve_work.specs.SessionInside.{AllGoOn, GoesOn, HeldValue, IsReady, IsReadyAt}
use Rattle.serve_work.proofs.Intervals.{ready_at, reopened, stands_across}
use Rattle.serve_work.proofs.Journals.{fits_limit}
use Rattle.serve_work.proofs.Retiring.{some_and}
use Rattle.serve_work.proofs.SessionTurns.{map_more, seat_number, seat_spec}
use Rattle.serve_work.proofs.Times.{allowed_too, no_offer, timed_too}
use Rattle.serve_work.proofs.Timing.{timed}

-- one stream

-- the stream of a request begins with a new seat
pub began : (terms : Terms) (times : ℕ → Type 0) (es : List EpochValue) (opening : ScheduleValue) (w : Waiting)
    (seat : StreamSeatValue) → length es ≡ w.since → IsRequest w.request → IsSeatFor w.request.spec seat
    → IsNewIn terms w.request.spec opening seat.number → offers_in seat.calls.list ≡ 0 → IsUnclosed seat.calls.list → seat.moments ≡ None
    → Begins terms times es opening w (sessions.Waiting (Unbegun w.request.reader w.request.before w.request.failures)) seat
began terms times es opening w seat given is new there none unclosed no_moments =
    let first : IsFresh seat = record { accepted = new.accepted; kept = new.kept; is_open = new.is_open } in
    record {
      is_request = is;
      first = seat;
      is_new = new;
      numbers = [];
      had = given;
      behind = there;
      stands = record {
        same_reader = refl;
        same_contents = refl;
        same_failures = refl;
        is_open = is.is_open;
        first = first;
        fresh = first;
        stays = Stays-same seat;
        offers = none ∙ sym new.accepted;
        closes = λ _. unclosed;
        before = omega arith;
      };
      no_offers = none;
      no_moments = no_moments;
      stop = tt;
    }

-- the seat of a stream whose frames are of the size that its chain is for tells what it is served with
told_by : (limit number : ℕ) (spec : StreamSpec) → spec.chain.geometry ≡ spec.geometry
    → spec_told (seat_over limit (opened_rest number spec)) ≡ spec
told_by limit number spec sized = ap (λ (g : Geometry). record spec { geometry = g }) sized

pub admitted : (spec : StreamSpec) (seat : StreamSeatValue) → spec.chain.geometry ≡ spec.geometry → Admits spec seat
    → IsSeatFor spec seat × (offers_in seat.calls.list ≡ 0) × IsUnclosed seat.calls.list × (seat.moments ≡ None)
admitted spec seat sized a = (
  record {
    told = ap spec_told a ∙ told_by seat.calls.limit seat.number spec sized;
    accepted = ap (λ (s : StreamSeatValue). s.accepted) a;
    kept = ap (λ (s : StreamSeatValue). s.kept) a;
    is_open = ap (λ (s : StreamSeatValue). s.is_closed) a;
    before = ap (λ (s : StreamSeatValue). s.before) a;
    torn = ap (λ (s : StreamSeatValue). s.torn) a;
  },
  ap (λ (s : StreamSeatValue). offers_in s.calls.list) a,
  ap (λ (s : StreamSeatValue). closes_in s.calls.list) a,
  ap (λ (s : StreamSeatValue). s.moments) a,
)

pub opened : (limit number : ℕ) (spec : StreamSpec) → spec.chain.geometry ≡ spec.geometry
    → IsSeatFor spec (seat_over limit (opened_rest number spec))
opened limit number spec sized =
    record { told = told_by limit number spec sized; accepted = refl; kept = refl; is_open = refl; before = refl; torn = refl }

pub opens_for : (terms : Terms) (spec : StreamSpec) (setup : Setup) (opening : ScheduleValue)
    → setup ≡ setup_of terms.workers terms.quantum (spec ∷ []) → IsSetup setup → opened_schedule setup ≡ opening
    → OpensFor terms (spec ∷ []) opening
opens_for terms spec setup opening is good opens =
    record { is_setup = subst IsSetup is good; opened = sym opens ∙ ap opened_schedule is }

-- so does a hub for one stream, where they come one by one
pub opens_alone : (terms : Terms) (es : List EpochValue) (spec : StreamSpec) (opening : ScheduleValue) → terms.together ≡ None
    → OpensFor terms (spec ∷ []) opening → OpensBehind terms es opening
opens_alone terms es spec opening none opens = inl (
  spec ∷ [],
  opens,
  subst (λ (all : Option (List StreamSpec)). MayOpenFor all es (spec ∷ [])) (sym none) refl,
)

-- where it stands, its client may go on
pub may_go : (terms : Terms) (times : ℕ → Type 0) (es : List EpochValue) (opening : ScheduleValue) (w : Waiting)
    (stream : StreamValue) (seat : StreamSeatValue) → Begins terms times es opening w stream seat → IsReadyAt stream seat
may_go terms times es opening w stream seat b =
    let chain : b.first.chain ≡ w.request.spec.chain = ap (λ (spec : StreamSpec). spec.chain) b.is_new.told in
    ready_at (start_with w.request b.first) (acts_by b.numbers es) seat stream b.stands
    (rw chain b.is_request.header)

-- it is served with what its request asked for: so its seat told it where it was new, and tells it still
as_asked : (desk : ScheduleValue) (w : Waiting) (first : StreamSeatValue) (past : List Act) (stream : StreamValue)
    (seat : StreamSeatValue) → IsSeatFor w.request.spec first → StandsAt stream (start_with w.request first) past seat
    → HasStream desk seat.number (IsStreamOf seat) → HasStream desk seat.number (IsOfSpec w.request.spec)
as_asked desk w first past stream seat new stands has =
    some_and (IsStreamOf seat) (IsOfSpec w.request.spec) (slice_get desk.streams seat.number)
    (λ x of. of.spec ∙ seat_spec (start_with w.request first) past seat stream stands ∙ new.told) has

-- the seat of this number is one of those of which this holds
at_place : {A : Type 0} (P : A → Type 0) (xs : List A) (k : ℕ) (d : A) → AllByRecursion P xs → k < length xs → P (get_or xs k d)
at_place P [] k d all less = absurd (omega (arith, less))
at_place P (x ∷ xs) zero d all less = all.0
at_place P (x ∷ xs) (suc k) d all less = at_place P xs k d all.1 (omega (arith, less))

timed_at : (P : ℕ → Type 0) (seats : List StreamSeatValue) (s : ℕ) → Any (λ seat. seat.number ≡ s) seats
    → AllByRecursion (λ seat. P seat.number) seats → P s
timed_at P seats s found all =
    subst P found.4
    (subst (λ (seat : StreamSeatValue). P seat.number) found.3
    (at_place (λ (seat : StreamSeatValue). P seat.number) seats found.0 found.1 all found.2))

-- where a book was opened a legal transcript led
pub reached_at : (opening : ScheduleValue) (book : BookValue) → hubs.IsHistory opening book
    → IsReached measures_any is_any_image (desk_state book.opening)
reached_at opening book h =
    subst (λ (x : ScheduleValue). IsReached measures_any is_any_image (desk_state x)) (sym h.same) h.leads.reached

-- a book that is left with all leases spent is that of an epoch, in which streams went on by a clock that gives such
-- times
module _ (terms : Terms) (times : ℕ → Type 0) (es : List EpochValue) (opening : ScheduleValue) (book : BookValue) (is : IsBook book)
    (reached : IsReached measures_any is_any_image (desk_state book.opening)) (from : book.opening ≡ opening) (of_limit : book.limit ≡ terms.limit) (free : AreFree book.desk.workers)
    (spent : HaveSpent (length book.desk.workers) book.past) (rests : List StreamRest) (whose : List (Option ℕ)) (gone : ScheduleValue)
    (goes : IsGone book.desk gone) where
  abbrev this_epoch : EpochValue
  this_epoch = record {
    opening = book.opening;
    journal = book.past;
    last = book.desk;
    gone = gone;
    rests = rests;
    whose = whose;
    is_given_up = false;
  }

  pub is_epoch : IsEpochBy terms this_epoch
  is_epoch =
      record {
        reached = reached;
        leads = is.journal;
        free = free;
        spent = spent;
        fits = fits_limit terms.limit book is of_limit free;
        goes_on = goes;
      }

  module _ (Gives : ℕ → Type 0) (given : (at : ℕ) → Gives at → times at) where
    its_times : (old new : HeldValue) → offers_in old.seat.calls.list ≡ 0 → old.seat.moments ≡ None
        → KeepsMoments Gives old.seat new.seat
        → acts_of (numbered.Stream new.seat.number) (reverse book.past) ≡ new.seat.calls.list
        → ClockReached new.seat.number new.seat.moments (specs_of book.desk) (opening_of book) book.past
        → AreTimed times new.seat.number (specs_of book.desk) (opening_of book) book.past
    its_times old new none no_moments keeps own reached =
        timed_too Gives times given new.seat.number (specs_of book.desk) (opening_of book) book.past
        (timed Gives new.seat.number new.seat.moments (specs_of book.desk) (opening_of book) book.past is.journal.entries reached
        (keeps.first (subst (λ (o : Option Moments). IfSome o (λ t. Gives t.first)) (sym no_moments) tt))
        (subst (AreAtMoments Gives) (sym own) (keeps.calls (no_offer Gives old.seat.calls.list none))))

    -- a seat that made no call
    idle_times : (seat : StreamSeatValue) → HasNoCalls seat
        → acts_of (numbered.Stream seat.number) (reverse book.past) ≡ seat.calls.list
        → ClockReached seat.number seat.moments (specs_of book.desk) (opening_of book) book.past
        → AreTimed times seat.number (specs_of book.desk) (opening_of book) book.past
    idle_times seat none own reached =
        timed_too Gives times given seat.number (specs_of book.desk) (opening_of book) book.past
        (timed Gives seat.number seat.moments (specs_of book.desk) (opening_of book) book.past is.journal.entries reached
        (subst (λ (o : Option Moments). IfSome o (λ t. Gives t.first)) (sym none.1) tt)
        (subst (AreAtMoments Gives) (sym (own ∙ none.0)) tt))

    went : (w : Waiting) (old new : HeldValue) → HasTurn terms times es opening w old
        → GoesOn Gives old new → acts_of (numbered.Stream new.seat.number) (reverse book.past) ≡ new.seat.calls.list
        → HasStream book.desk new.seat.number (IsStreamOf new.seat) → slice_get whose new.seat.number ≡ Some (Some w.ticket)
        → Contains rests (left_by new.seat) → HadTurn terms times (this_epoch ∷ es) gone w new
    went w old new b on own kept mine left =
        let start = start_with w.request b.first in
        let past : List Act = acts_by b.numbers es in
        let stands : StandsAt new.stream start past new.seat = on.0 start past b.stands in
        let number : new.seat.number ≡ old.seat.number =
        seat_number start past new.seat new.stream stands ∙ sym (seat_number start past old.seat old.stream b.stands) in
        record {
          is_request = b.is_request;
          first = b.first;
          is_new = b.is_new;
          past = past;
          number = new.seat.number;
          before = b.numbers;
          had = (
            mine,
            as_asked book.desk w b.first past new.stream new.seat b.is_new stands kept,
            subst (λ (x : ScheduleValue). IsBehind terms w.request.spec b.numbers es x new.seat.number) (sym from)
                (subst (λ (n : ℕ). IsBehind terms w.request.spec b.numbers es opening n) (sym number) b.behind),
            b.had,
          );
          behind = (refl, inl (refl, refl));
          stands = stands;
          calls = ap (λ (acts : List Act). past ++ acts) (sym own);
          left = left;
          stop = allowed_too Gives times given (stream_stop old.stream) (stream_stop new.stream) on.2 b.stop;
        }

    pub all_had : (ws : List Waiting) (helds after : List HeldValue) (idle : List StreamSeatValue)
        → AllZip (HasTurn terms times es opening) ws helds → AllGoOn Gives helds after
        → AreStreamCalls (reverse book.past) (map (λ held. held.seat) after ++ idle)
        → AreStreamsOf book.desk (map (λ held. held.seat) after ++ idle)
        → AllZip (λ w held. slice_get whose held.seat.number ≡ Some (Some w.ticket)) ws after
        → AllByRecursion (λ held. Contains rests (left_by held.seat)) after
        → AllZip (HadTurn terms times (this_epoch ∷ es) gone) ws after
    all_had [] [] [] idle p q calls kept mine lefts = tt
    all_had [] [] (held ∷ after) idle p q calls kept mine lefts = absurd q
    all_had [] (held ∷ helds) after idle p q calls kept mine lefts = absurd p
    all_had (w ∷ ws) [] after idle p q calls kept mine lefts = absurd p
    all_had (w ∷ ws) (held ∷ helds) [] idle p q calls kept mine lefts = absurd q
    all_had (w ∷ ws) (held ∷ helds) (next ∷ after) idle p q calls kept mine lefts = (
      went w held next p.0 q.0 (calls 0 next.seat (omega arith)) (kept 0 next.seat (omega arith)) mine.0 lefts.0,
      all_had ws helds after idle p.1 q.1 (λ k d less. calls (suc k) d (omega (arith, less)))
          (λ k d less. kept (suc k) d (omega (arith, less))) mine.1 lefts.1,
    )

    -- each entry of a frame is at one of these times
    idle_timed : (idle : List StreamSeatValue) → AllByRecursion HasNoCalls idle → AreStreamCalls (reverse book.past) idle
        → ClocksReached book idle
        → AllByRecursion (λ seat. AreTimed times seat.number (specs_of book.desk) (opening_of book) book.past) idle
    idle_timed [] none calls reached = tt
    idle_timed (seat ∷ idle) none calls reached = (
      idle_times seat none.0 (calls 0 seat (omega arith)) (reached 0 seat (omega arith)),
      idle_timed idle none.1 (λ k d less. calls (suc k) d (omega (arith, less))) (λ k d less. reached (suc k) d (omega (arith, less))),
    )

    all_timed : (ws : List Waiting) (helds after : List HeldValue) (idle : List StreamSeatValue)
        → AllZip (HasTurn terms times es opening) ws helds → AllGoOn Gives helds after → AllByRecursion HasNoCalls idle
        → AreStreamCalls (reverse book.past) (map (λ held. held.seat) after ++ idle)
        → ClocksReached book (map (λ held. held.seat) after ++ idle)
        → AllByRecursion (λ seat. AreTimed times seat.number (specs_of book.desk) (opening_of book) book.past)
        (map (λ held. held.seat) after ++ idle)
    all_timed [] [] [] idle p q none calls reached = idle_timed idle none calls reached
    all_timed [] [] (held ∷ after) idle p q none calls reached = absurd q
    all_timed [] (held ∷ helds) after idle p q none calls reached = absurd p
    all_timed (w ∷ ws) [] after idle p q none calls reached = absurd p
    all_timed (w ∷ ws) (held ∷ helds) [] idle p q none calls reached = absurd q
    all_timed (w ∷ ws) (held ∷ helds) (next ∷ after) idle p q none calls reached = (
      its_times held next p.0.no_offers p.0.no_moments q.0.1 (calls 0 next.seat (omega arith)) (reached 0 next.seat (omega arith)),
      all_timed ws helds after idle p.1 q.1 none (λ k d less. calls (suc k) d (omega (arith, less)))
          (λ k d less. reached (suc k) d (omega (arith, less))),
    )

    pub has_ended : (ws : List Waiting) (helds after : List HeldValue) (idle : List StreamSeatValue)
        → AllZip (HasTurn terms times es opening) ws helds → AllGoOn Gives helds after → AllByRecursion HasNoCalls idle
        → AreStreamCalls (reverse book.past) (map (λ held. held.seat) after ++ idle)
        → ClocksReached book (map (λ held. held.seat) after ++ idle)
        → HaveStreams (length book.desk.streams) (map (λ held. held.seat) after ++ idle)
        → OpensBehind terms es opening → IsHistory terms times es → HasEnded terms times es this_epoch
    has_ended ws helds after idle p q none calls reached have opens before =
        let all = all_timed ws helds after idle p q none calls reached in
        record {
          before = before;
          opens = subst (OpensBehind terms es) (sym from) opens;
          is_epoch = is_epoch;
          timed = λ s less. timed_at (λ n. AreTimed times n (specs_of book.desk) (opening_of book) book.past)
              (map (λ held. held.seat) after ++ idle) s (have s less) all;
        }

-- each of them was in the latest of these epochs
pub all_in : (terms : Terms) (times : ℕ → Type 0) (es : List EpochValue) (last : ScheduleValue) (ws : List Waiting) (helds : List HeldValue)
    → AllZip (HadTurn terms times es last) ws helds → AreAllIn terms es ws
all_in terms times es last [] [] p = tt
all_in terms times es last [] (held ∷ helds) p = absurd p
all_in terms times es last (w ∷ ws) [] p = absurd p
all_in terms times es last (w ∷ ws) (held ∷ helds) p =
    ((p.0.number, p.0.before, p.0.had), all_in terms times es last ws helds p.1)

pub all_pushed : {A : Type 0} (P : A → Type 0) (xs : List A) (x : A) → AllByRecursion P xs → P x → AllByRecursion P (xs ++ x ∷ [])
all_pushed P [] x all p = (p, tt)
all_pushed P (y ∷ xs) x all p = (all.0, all_pushed P xs x all.1 p)

-- a seat that was opened anew made no call
pub none_called : (size : ℕ) (rests : List StreamRest) → AllByRecursion HasNoCalls (map (seat_over size) rests)
none_called size [] = tt
none_called size (rest ∷ rests) = ((refl, refl), none_called size rests)

-- and where an epoch ended it begins again
pub again : (terms : Terms) (size : ℕ) (times : ℕ → Type 0) (es : List EpochValue) (last : ScheduleValue) (w : Waiting)
    (stream : StreamValue) (seat : StreamSeatValue) → Stood terms times es last w stream seat
    → Begins terms times es last w stream (seat_over size (left_by seat))
again terms size times es last w stream seat s =
    let next : StreamSeatValue = seat_over size (left_by seat) in
    let start = start_with w.request s.first in
    record {
      is_request = s.is_request;
      first = s.first;
      is_new = s.is_new;
      numbers = s.number ∷ s.before;
      had = s.had;
      behind = s.behind;
      stands = subst (λ (past : List Act). StandsAt stream start past next) s.calls
          (stands_across start s.past seat next stream (reopened size seat) s.stands);
      no_offers = refl;
      no_moments = refl;
      stop = s.stop;
    }

-- their lists

pub all_ready : (terms : Terms) (times : ℕ → Type 0) (es : List EpochValue) (opening : ScheduleValue) (ws : List Waiting) (helds : List HeldValue)
    → AllZip (HasTurn terms times es opening) ws helds → AllByRecursion IsReady helds
all_ready terms times es opening [] [] p = tt
all_ready terms times es opening [] (held ∷ helds) p = absurd p
all_ready terms times es opening (w ∷ ws) [] p = absurd p
all_ready terms times es opening (w ∷ ws) (held ∷ helds) p =
    (may_go terms times es opening w held.stream held.seat p.0, all_ready terms times es opening ws helds p.1)

pub one_turn_more : (terms : Terms) (times : ℕ → Type 0) (es : List EpochValue) (opening : ScheduleValue) (ws : List Waiting) (helds : List HeldValue) (w : Waiting) (held : HeldValue)
    → AllZip (HasTurn terms times es opening) ws helds → HasTurn terms times es opening w held
    → AllZip (HasTurn terms times es opening) (ws ++ w ∷ []) (helds ++ held ∷ [])
one_turn_more terms times es opening [] [] w held p one = (one, tt)
one_turn_more terms times es opening [] (h ∷ helds) w held p one = absurd p
one_turn_more terms times es opening (v ∷ ws) [] w held p one = absurd p
one_turn_more terms times es opening (v ∷ ws) (h ∷ helds) w held p one = (p.0, one_turn_more terms times es opening ws helds w held p.1 one)

nobody_at : (R W : Type 0) (terms : Terms) (times : ℕ → Type 0) (es : List EpochValue) (desk : ScheduleValue) (idle : List StreamSeatValue)
    → AllAt (IsGuestAt {R = R} {W = W} terms times es desk) (nobody idle) idle []
nobody_at R W terms times es desk [] = tt
nobody_at R W terms times es desk (seat ∷ idle) = nobody_at R W terms times es desk idle

module _ (R W : Type 0) (terms : Terms) (times : ℕ → Type 0) (es : List EpochValue) (desk : ScheduleValue) where
  pub guests_at : (ws : List Waiting) (streams : List StreamValue) (after : List HeldValue) (idle : List StreamSeatValue)
      → AllZip (HadTurn terms times es desk) ws after → streams ≡ map (λ held. held.stream) after
      → AllAt (IsGuestAt {R = R} {W = W} terms times es desk) (guests_of (map (λ w. w.ticket) ws) streams ++ nobody idle)
      (map (λ held. held.seat) after ++ idle) ws
  guests_at [] streams [] idle p e = nobody_at R W terms times es desk idle
  guests_at [] streams (held ∷ after) idle p e = absurd p
  guests_at (w ∷ ws) [] [] idle p e = absurd p
  guests_at (w ∷ ws) [] (held ∷ after) idle p e = absurd (omega (arith, ap length e))
  guests_at (w ∷ ws) (stream ∷ streams) [] idle p e = absurd p
  guests_at (w ∷ ws) (stream ∷ streams) (held ∷ after) idle p e =
      let here : stream ≡ held.stream = ap (λ (vs : List StreamValue). get_or vs 0 stream) e in (
        (refl, rw here p.0),
        guests_at ws streams after idle p.1 (ap (λ (vs : List StreamValue). drop 1 vs) e),
      )

module _ {R W : Type 0} (terms : Terms) (times : ℕ → Type 0) (es : List EpochValue) (desk : ScheduleValue) where
  pub guests_in : (size : ℕ) (guests : List (Option (Guest R W))) (seats : List StreamSeatValue) (ws : List Waiting)
      → AllAt (IsGuestAt terms times es desk) guests seats ws
      → AllAt (IsGuestIn terms times es desk) guests (map (seat_over size) (map left_by seats)) ws
  guests_in size [] seats [] p = tt
  guests_in size [] seats (w ∷ ws) p = absurd p
  guests_in size (guest ∷ guests) [] ws p = absurd p
  guests_in size (None ∷ guests) (seat ∷ seats) ws p = guests_in size guests seats ws p
  guests_in size (Some guest ∷ guests) (seat ∷ seats) [] p = absurd p
  guests_in size (Some guest ∷ guests) (seat ∷ seats) (w ∷ ws) p =
      ((p.0.0, again terms size times es desk w guest.stream seat p.0.1), guests_in size guests seats ws p.1)

  pub seated_of : (seats : List StreamSeatValue) (guests : List (Option (Guest R W))) (ws : List Waiting)
      → AllAt (IsGuestIn terms times es desk) guests seats ws → AllZip (HasTurn terms times es desk) ws (helds_of seats guests)
  seated_of [] [] [] p = tt
  seated_of (seat ∷ seats) [] [] p = tt
  seated_of seats [] (w ∷ ws) p = absurd p
  seated_of [] (guest ∷ guests) ws p = absurd p
  seated_of (seat ∷ seats) (None ∷ guests) ws p = seated_of seats guests ws p
  seated_of (seat ∷ seats) (Some guest ∷ guests) [] p = absurd p
  seated_of (seat ∷ seats) (Some guest ∷ guests) (w ∷ ws) p = (p.0.1, seated_of seats guests ws p.1)

  pub tickets_are : (seats : List StreamSeatValue) (guests : List (Option (Guest R W))) (ws : List Waiting)
      → AllAt (IsGuestIn terms times es desk) guests seats ws → tickets_of seats guests ≡ map (λ w. w.ticket) ws
  tickets_are [] [] [] p = refl
  tickets_are (seat ∷ seats) [] [] p = refl
  tickets_are seats [] (w ∷ ws) p = absurd p
  tickets_are [] (guest ∷ guests) ws p = absurd p
  tickets_are (seat ∷ seats) (None ∷ guests) ws p = tickets_are seats guests ws p
  tickets_are (seat ∷ seats) (Some guest ∷ guests) [] p = absurd p
  tickets_are (seat ∷ seats) (Some guest ∷ guests) (w ∷ ws) p =
      ap (λ (ticket : ℕ). ticket ∷ tickets_of seats guests) p.0.0
      ∙ ap (λ (tickets : List ℕ). w.ticket ∷ tickets) (tickets_are seats guests ws p.1)

-- the streams of an epoch that opens

pub seated_more : {L R W : Type 0} (terms : Terms) (times : ℕ → Type 0) (es : List EpochValue) (opening : ScheduleValue) (ws : List Waiting) (old new : Hall L R W) (w : Waiting)
    (held : HeldValue) → AreSeated terms times es opening ws old → TakesSeat w.ticket held old new → HasTurn terms times es opening w held
    → AreSeated terms times es opening (ws ++ w ∷ []) new
seated_more terms times es opening ws old new w held s t turn = record {
  history = s.history;
  opens = s.opens;
  idle = rw t.idle s.idle;
  places = t.places;
  few = omega (arith, t.few, t.len, ap vec_len t.idle);
  helds = s.helds ++ held ∷ [];
  turns = t.turns ∙ ap (λ (ts : List (Option HeldValue)). ts ++ Some held ∷ []) s.turns ∙ sym (map_more Some s.helds held);
  tickets = t.tickets ∙ ap (λ (tickets : List ℕ). tickets ++ w.ticket ∷ []) s.tickets ∙ sym (map_more (λ (v : Waiting). v.ticket) ws w);
  each = one_turn_more terms times es opening ws s.helds w held s.each turn;
}

pub empty_seated : {L R W : Type 0} (terms : Terms) (times : ℕ → Type 0) (es : List EpochValue) (opening : ScheduleValue) (hall : Hall L R W) → HasPlaces hall
    → IsHistory terms times es → OpensBehind terms es opening
    → hall.room.turns.items ≡ [] → hall.tickets.items ≡ [] → hall.idle.items ≡ [] → vec_len hall.room.turns + vec_len hall.idle ≤ 64
    → AreSeated terms times es opening [] hall
empty_seated terms times es opening hall places history opens turns tickets idle few = record {
  history = history;
  opens = opens;
  idle = rw idle tt;
  places = places;
  few = few;
  helds = [];
  turns = turns;
  tickets = tickets;
  each = tt;
}
