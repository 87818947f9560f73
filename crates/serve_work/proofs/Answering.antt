-- What is told of the streams of a session that come and go.
use Rattle.std.specs.Prelude.{All, IsSomeAnd, slice_get, slice_set}
use Rattle.std.proofs.Common.{◌≡◌, ℕ, zero, suc, ◌<◌, List, [], ◌∷◌, ◌++◌, length, get_or, map, Option, Some, None, Bool, IsFalse}
use Rattle.std.proofs.Common.{IsTrue, ◌⊎◌, false, true, inl, inr, refl, sym, ap, subst, arith}
use Rattle.std.proofs.lemmas.List.Elements.{All-cons, All-nil}
use Rattle.serve_core.specs.Schedule.{HasStream, ScheduleValue}
use Rattle.serve_core.specs.Setup.{StreamSpec}
use Rattle.serve_core.specs.Streams.{KeptStream}
use Rattle.serve_hub.specs.declared.entry.Act.{Act}
use Rattle.serve_hub.specs.Ends.{EndedValue, IsCharged, IsStreamOf}
use Rattle.serve_hub.specs.Seats.{StreamRest, StreamSeatValue, left_by}
use Rattle.serve_client.specs.Clients.{AllowsStop, ClientIsDone, ClientStart, StreamEnds}
use Rattle.serve_client.specs.Streams.{ServedValue, StandsAt, StreamValue, is_waiting}
use Rattle.serve_work.specs.declared.live.guests.Guest.{Guest}
use Rattle.serve_work.specs.History.{AreEpochsBy, EpochValue, IsHistory, Terms, given_up}
use Rattle.serve_work.specs.Live.{HasAtEnd, IsBehind, IsNotCut, IsServedSince, Waiting, start_with}
use Rattle.serve_work.specs.LiveInside.{AllAt, AreAllTold, AreGuests, CanTell, MayTell, ended_so, IsGuestAt, Stood}
use Rattle.serve_work.specs.Sessions.{IsStreamTold}
use Rattle.serve_work.proofs.Renumbered.{stream_before}
use Rattle.serve_work.proofs.SessionCharges.{served_one}
use Rattle.serve_work.proofs.Left.{streams_gone}

-- what holds of a stream where its latest epoch was left, perhaps without the released streams, held at its end
pub at_end : (terms : Terms) (spec : StreamSpec) (es : List EpochValue) (number : ℕ) (before : List ℕ) (desk : ScheduleValue) (now : ℕ)
    (P : KeptStream → Type 0) → AreEpochsBy terms es → IsBehind terms spec (number ∷ before) es desk now → HasStream desk now P
    → HasAtEnd es number P
at_end terms spec [] number before desk now P are behind has = absurd behind
at_end terms spec (epoch ∷ es) number before desk now P are behind has =
    subst (λ (streams : List KeptStream). IsSomeAnd (slice_get streams number) P)
    (streams_gone epoch.last epoch.gone are.0.goes_on)
    (stream_before epoch.gone number desk now P behind.1 has)

-- the history of epochs behind which all were given up
pub history_so : (gives_up : Bool) (terms : Terms) (times : ℕ → Type 0) (es : List EpochValue) → IsHistory terms times es
    → IsHistory terms times (ended_so gives_up es)
history_so false terms times es h = h
history_so true terms times [] h = h
history_so true terms times (epoch ∷ es) h =
    let is = h.epochs_are.0 in
    let timed = h.timed.0 in
    record {
      epochs_are = (
        record {
          reached = is.reached;
          leads = is.leads;
          free = is.free;
          spent = is.spent;
          fits = is.fits;
          goes_on = is.goes_on;
        },
        h.epochs_are.1,
        h.epochs_are.2,
      );
      timed = (record { each = timed.each; goes_on = timed.goes_on }, h.timed.1);
    }

-- what it came to is told, that it is its client's end, or that all are given up

since_given_up : (terms : Terms) (times : ℕ → Type 0) (es : List EpochValue) (w : Waiting) (served : ServedValue)
    → IsServedSince terms times es w served
    → (since : IsServedSince terms times (given_up es) w served) × IsNotCut terms times (given_up es) w served since
since_given_up terms times [] w served since = absurd since.numbers
since_given_up terms times (epoch ∷ es) w served since = (
  record {
    history = history_so true terms times (epoch ∷ es) since.history;
    seat = since.seat;
    is_new = since.is_new;
    is_served = since.is_served;
    number = since.number;
    before = since.before;
    numbers = since.numbers;
    calls = since.calls;
    stream = since.stream;
    left = since.left;
    stop = since.stop;
  },
  inl refl,
)

told_so : (terms : Terms) (times : ℕ → Type 0) (es told : List EpochValue) (w : Waiting) (stream : StreamValue)
    (served : ServedValue) (since : IsServedSince terms times es w served)
    → (IsFalse (is_waiting stream) → ClientIsDone (start_with w.request since.seat) since.is_served.past since.is_served.seat served.outcome)
    → MayTell es told stream → (all : IsServedSince terms times told w served) × IsNotCut terms times told w served all
told_so terms times es told w stream served since own (inl may) =
    subst (λ (these : List EpochValue). (all : IsServedSince terms times these w served) × IsNotCut terms times these w served all)
    (sym may.1) (since, inr (own may.0))
told_so terms times es told w stream served since own (inr may) =
    subst (λ (these : List EpochValue). (all : IsServedSince terms times these w served) × IsNotCut terms times these w served all)
    (sym may) (since_given_up terms times es w served since)

pub answered : (terms : Terms) (times : ℕ → Type 0) (es told : List EpochValue) (desk : ScheduleValue) (w : Waiting)
    (stream : StreamValue) (seat : StreamSeatValue) (served : ServedValue) → IsHistory terms times es
    → Stood terms times es desk w stream seat
    → ((start : ClientStart) (past : List Act) (last : StreamSeatValue) → StandsAt stream start past last
    → StreamEnds start past last served.outcome)
    → (IsFalse (is_waiting stream) → (start : ClientStart) (past : List Act) (last : StreamSeatValue)
    → StandsAt stream start past last → ClientIsDone start past last served.outcome)
    → All IsCharged desk.streams → HasStream desk seat.number (IsStreamOf seat)
    → HasStream desk seat.number (λ kept. served.charged ≡ kept.state.charged)
    → AllowsStop times served.outcome.stop → MayTell es told stream
    → (since : IsServedSince terms times told w served) × IsNotCut terms times told w served since
answered terms times es told desk w stream seat served history s ends own all of charged stop may =
    let start = start_with w.request s.first in
    let one = served_one start s.past seat served desk all (ends start s.past seat s.stands) of charged in
    let since : IsServedSince terms times es w served = record {
      history = history;
      seat = s.first;
      is_new = s.is_new;
      is_served = one.is_served;
      number = s.number;
      before = s.before;
      numbers = s.had;
      calls = rw (one.past_of, one.seat_of) s.calls;
      stream = at_end terms w.request.spec es s.number s.before desk seat.number (IsStreamTold served) history.epochs_are s.behind
          one.stream;
      left = rw one.seat_of s.left;
      stop = stop;
    } in
    told_so terms times es told w stream served since
    (λ over. rw (one.past_of, one.seat_of) (own over start s.past seat s.stands)) may

-- a stream that is due may be told
pub may_tell : (gives_up : Bool) (es : List EpochValue) (stream : StreamValue) → IsTrue gives_up ⊎ IsFalse (is_waiting stream)
    → MayTell es (ended_so gives_up es) stream
may_tell true es stream due = inr refl
may_tell false es stream (inl e) = absurd (cc)
may_tell false es stream (inr over) = inl (over, refl)

-- the streams at their places

-- a stream at a place, its seat, and its request among those that wait
pub record At {R W : Type 0} (P : Guest R W → StreamSeatValue → Waiting → Type 0) (guests : List (Option (Guest R W)))
    (seats : List StreamSeatValue) (ws : List Waiting) (place : ℕ) (guest : Guest R W) : Type 0 where
  pub before : List Waiting
  pub w : Waiting
  pub after : List Waiting
  pub split : ws ≡ before ++ w ∷ after
  pub seat : StreamSeatValue
  pub rest : slice_get (map left_by seats) place ≡ Some (left_by seat)
  pub within : place < length seats
  pub here : get_or seats place seat ≡ seat
  pub is : P guest seat w
  pub others : AllAt P (slice_set guests place None) seats (before ++ after)

module _ {R W : Type 0} (P : Guest R W → StreamSeatValue → Waiting → Type 0) where
  pub guest_at : (guests : List (Option (Guest R W))) (seats : List StreamSeatValue) (ws : List Waiting) (place : ℕ) (guest : Guest R W)
      → AllAt P guests seats ws → slice_get guests place ≡ Some (Some guest) → At P guests seats ws place guest
  guest_at [] seats ws place guest p e = absurd (cc)
  guest_at (g ∷ guests) [] ws place guest p e = absurd p
  guest_at (None ∷ guests) (seat ∷ seats) ws zero guest p e = absurd (cc)
  guest_at (None ∷ guests) (seat ∷ seats) ws (suc place) guest p e =
      let at = guest_at guests seats ws place guest p e in
      record {
        before = at.before;
        w = at.w;
        after = at.after;
        split = at.split;
        seat = at.seat;
        rest = at.rest;
        within = omega (arith, at.within);
        here = at.here;
        is = at.is;
        others = at.others;
      }
  guest_at (Some g ∷ guests) (seat ∷ seats) [] place guest p e = absurd p
  guest_at (Some g ∷ guests) (seat ∷ seats) (w ∷ ws) zero guest p e =
      let same : g ≡ guest = cc in
      record {
        before = [];
        w = w;
        after = ws;
        split = refl;
        seat = seat;
        rest = refl;
        within = omega arith;
        here = refl;
        is = subst (λ (x : Guest R W). P x seat w) same p.0;
        others = p.1;
      }
  guest_at (Some g ∷ guests) (seat ∷ seats) (w ∷ ws) (suc place) guest p e =
      let at = guest_at guests seats ws place guest p.1 e in
      record {
        before = w ∷ at.before;
        w = at.w;
        after = at.after;
        split = ap (λ (vs : List Waiting). w ∷ vs) at.split;
        seat = at.seat;
        rest = at.rest;
        within = omega (arith, at.within);
        here = at.here;
        is = at.is;
        others = (p.0, at.others);
      }

  -- where there is none, none leaves it
  pub nobody_leaves : (guests : List (Option (Guest R W))) (seats : List StreamSeatValue) (ws : List Waiting) (place : ℕ)
      → AllAt P guests seats ws → slice_get guests place ≡ Some None → AllAt P (slice_set guests place None) seats ws
  nobody_leaves [] seats ws place p e = absurd (cc)
  nobody_leaves (g ∷ guests) [] ws place p e = absurd p
  nobody_leaves (None ∷ guests) (seat ∷ seats) ws zero p e = p
  nobody_leaves (None ∷ guests) (seat ∷ seats) ws (suc place) p e = nobody_leaves guests seats ws place p e
  nobody_leaves (Some g ∷ guests) (seat ∷ seats) [] place p e = absurd p
  nobody_leaves (Some g ∷ guests) (seat ∷ seats) (w ∷ ws) zero p e = absurd (cc)
  nobody_leaves (Some g ∷ guests) (seat ∷ seats) (w ∷ ws) (suc place) p e =
      (p.0, nobody_leaves guests seats ws place p.1 e)

  -- and where no stream is left, no request waits
  pub nobody_waits : (guests : List (Option (Guest R W))) (seats : List StreamSeatValue) (ws : List Waiting) → AllAt P guests seats ws
      → AreAllTold guests → ws ≡ []
  nobody_waits [] seats [] p all = refl
  nobody_waits [] seats (w ∷ ws) p all = absurd p
  nobody_waits (g ∷ guests) [] ws p all = absurd p
  nobody_waits (None ∷ guests) (seat ∷ seats) ws p all =
      nobody_waits guests seats ws p (λ k d less. all (suc k) d (omega (arith, less)))
  nobody_waits (Some g ∷ guests) (seat ∷ seats) ws p all =
      let none : Some g ≡ None = all 0 (Some g) (omega arith) in absurd (cc)

  -- where a stream is left, a request waits
  told_where_nobody_waits : (guests : List (Option (Guest R W))) (seats : List StreamSeatValue) → AllAt P guests seats [] → AreAllTold guests
  told_where_nobody_waits [] seats p = All-nil (λ (guest : Option (Guest R W)). guest ≡ None)
  told_where_nobody_waits (g ∷ guests) [] p = absurd p
  told_where_nobody_waits (None ∷ guests) (seat ∷ seats) p =
      All-cons (λ (guest : Option (Guest R W)). guest ≡ None) None guests refl (told_where_nobody_waits guests seats p)
  told_where_nobody_waits (Some g ∷ guests) (seat ∷ seats) p = absurd p

  pub some_waits : (guests : List (Option (Guest R W))) (seats : List StreamSeatValue) (ws : List Waiting) → AllAt P guests seats ws
      → ¬ AreAllTold guests → (w : Waiting) × (others : List Waiting) × (ws ≡ w ∷ others)
  some_waits guests seats [] p left = absurd (left (told_where_nobody_waits guests seats p))
  some_waits guests seats (w ∷ ws) p left = (w, ws, refl)

-- the streams between two epochs, of which one was told
module _ {R W : Type 0} (terms : Terms) (times : ℕ → Type 0) (es : List EpochValue) (ended : EndedValue) where
  abbrev are_guests : List Waiting → List (Option (Guest R W)) → Type 0
  are_guests ws guests = AreGuests terms times es ended ws guests

  abbrev is_guest : Guest R W → StreamSeatValue → Waiting → Type 0
  is_guest = IsGuestAt terms times es ended.book.desk

  pub with_guests : (ws vs : List Waiting) (guests others : List (Option (Guest R W))) (a : are_guests ws guests)
      → AllAt is_guest others a.seats vs → are_guests vs others
  with_guests ws vs guests others a each = record {
    history = a.history;
    left_here = a.left_here;
    seats = a.seats;
    rests = a.rests;
    few = a.few;
    kept = a.kept;
    charges = a.charges;
    of_limit = a.of_limit;
    each = each;
  }

  pub can_tell : (ws : List Waiting) (guests : List (Option (Guest R W))) (place : ℕ) (guest : Guest R W) (a : are_guests ws guests)
      (at : At is_guest guests a.seats ws place guest)
      → CanTell terms times es ended place guest at.w
  can_tell ws guests place guest a at = record {
    history = a.history;
    ticket = at.is.0;
    seat = at.seat;
    stood = at.is.1;
    here = subst (λ (rests : List StreamRest). slice_get rests place ≡ Some (left_by at.seat)) (sym a.rests) at.rest;
    kept = subst (λ (s : StreamSeatValue). HasStream ended.book.desk s.number (IsStreamOf s)) at.here (a.kept place at.seat at.within);
    charges = a.charges;
  }
