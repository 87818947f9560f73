-- How a session comes from one epoch to the next.
use Rattle.std.specs.Prelude.{IsTrue, OnErr}
use Rattle.std.specs.List.{AllByRecursion}
use Rattle.std.proofs.Common.{append-nil, ◌≡◌, ℕ, suc, ◌≤◌, List, [], ◌∷◌, ◌++◌}
use Rattle.std.proofs.Common.{Option, Result, Ok, Err, OnOk, length, map, refl, sym, ap, ◌∙◌, subst}
use Rattle.std.proofs.Common.{arith}
use Rattle.std.proofs.Common.{length-append}
use Rattle.y4m_stream.specs.Reader.{ReaderState}
use Rattle.serve_core.specs.Desk.{desk_state}
use Rattle.serve_core.specs.Schedule.{ScheduleValue, opened_schedule}
use Rattle.serve_core.specs.Setup.{Setup, StreamSpec}
use Rattle.serve_core.specs.Streams.{KeptStream, opened}
use Rattle.serve_hub.specs.declared.entry.Act.{Act}
use Rattle.serve_hub.specs.declared.entry.Entry.{Entry}
use Rattle.serve_hub.specs.Books.{BookValue, IsBook, IsLimit, book_transcript, specs_of}
use Rattle.serve_hub.specs.Journal.{IsJournal}
use Rattle.serve_hub.proofs.Journals.{joined_is}
use Rattle.serve_hub.proofs.Specs.{added, specs_led}
use Rattle.serve_hub.specs.Seats.{StreamRest, StreamSeatValue, left_by, opened_rest, opened_streams, seat_over}
use Rattle.serve_client.specs.Clients.{ClientStart}
use Rattle.serve_client.specs.Epochs.{IsReopened}
use Rattle.serve_client.specs.Rests.{IsRestOf, Unbegun}
use Rattle.serve_client.specs.Streams.{Over, StandsAt, StreamValue, Waiting}
use Rattle.serve_client.proofs.Crossing.{new_stream_is_unbegun, streams_cross}
use Rattle.serve_client.proofs.Sized.{rest_sized}
use Rattle.serve_work.specs.declared.session.interval.Interval.{Interval}
use Rattle.serve_work.specs.Intervals.{Beginning, HasNoCalls, IsBeginning, IsBetween, IsSizedStart, LeadsTo, beginning_of}
use Rattle.serve_work.specs.History.{EpochValue}
use Rattle.serve_work.specs.Sessions.{AreInputs, IsInput, acts_in, start_of, starts_of, unread}
use Rattle.serve_work.specs.SessionInside.{AllBegin, AllStand, HeldValue, IsReady, IsReadyAt}
use Rattle.serve_work.specs.SessionInside.{held_with}
use Rattle.serve_work.proofs.SessionCharges.{are_from}
use Rattle.serve_work.proofs.SessionTurns.{same_length}

pub held_length : (seats : List StreamSeatValue) (streams : List StreamValue)
    → length (held_with seats streams) ≤ length streams
held_length [] streams = omega arith
held_length (seat ∷ seats) [] = omega arith
held_length (seat ∷ seats) (stream ∷ streams) = omega (arith, held_length seats streams)

-- the streams that have seats, where all have
pub streams_held : (seats : List StreamSeatValue) (streams : List StreamValue)
    → length (held_with seats streams) ≡ length streams
    → map (λ held. held.stream) (held_with seats streams) ≡ streams
streams_held [] [] e = refl
streams_held [] (stream ∷ streams) e = absurd (omega (arith, e))
streams_held (seat ∷ seats) [] e = refl
streams_held (seat ∷ seats) (stream ∷ streams) e =
    ap (λ (these : List StreamValue). stream ∷ these) (streams_held seats streams (omega (arith, e)))

-- how a session begins

module _ {W : Type 0} (contents : W → Option (List ℕ)) (failures : W → ℕ) (limit : ℕ) where
  unbegun : (first : ℕ) (spec : StreamSpec) (input : ReaderState × W) → IsInput spec input
      → IsRestOf (start_of contents failures (seat_over limit (opened_rest first spec)) input) [] (seat_over limit (opened_rest first spec))
      (Unbegun input.0 (contents input.1) (failures input.1))
  unbegun first spec input p =
      new_stream_is_unbegun (start_of contents failures (seat_over limit (opened_rest first spec)) input)
      (record { calls = refl; accepted = refl; kept = refl; is_open = refl }) p.is_open

  all_begin : (first : ℕ) (specs : List StreamSpec) (inputs : List (ReaderState × W)) → AreInputs specs inputs
      → AllBegin [] (starts_of contents failures (opened_streams limit first specs) inputs)
      (held_with (opened_streams limit first specs) (map (unread contents failures) inputs))
  all_begin first [] [] p = tt
  all_begin first [] (input ∷ inputs) p = absurd p
  all_begin first (spec ∷ specs) [] p = absurd p
  all_begin first (spec ∷ specs) (input ∷ inputs) p = (unbegun first spec input p.0, all_begin (suc first) specs inputs p.1)

  -- new seats, and streams that are seen as these inputs, stand where they begin
  pub begins_at : (specs : List StreamSpec) (inputs : List (ReaderState × W))
      (seats : List StreamSeatValue) (streams : List StreamValue) → AreInputs specs inputs → seats ≡ opened_streams limit 0 specs
      → streams ≡ map (unread contents failures) inputs
      → AllBegin [] (starts_of contents failures (opened_streams limit 0 specs) inputs) (held_with seats streams)
  begins_at specs inputs seats streams p e f =
      subst (AllBegin [] (starts_of contents failures (opened_streams limit 0 specs) inputs))
      (sym (ap (λ (these : List StreamSeatValue). held_with these streams) e
      ∙ ap (λ (these : List StreamValue). held_with (opened_streams limit 0 specs) these) f))
      (all_begin 0 specs inputs p)

  all_sized : (first : ℕ) (specs : List StreamSpec) (inputs : List (ReaderState × W)) → AreInputs specs inputs
      → AllByRecursion IsSizedStart (starts_of contents failures (opened_streams limit first specs) inputs)
  all_sized first [] [] p = tt
  all_sized first [] (input ∷ inputs) p = absurd p
  all_sized first (spec ∷ specs) [] p = absurd p
  all_sized first (spec ∷ specs) (input ∷ inputs) p = (p.0.header, all_sized (suc first) specs inputs p.1)

  pub all_starts : (first : ℕ) (specs : List StreamSpec) (inputs : List (ReaderState × W)) → AreInputs specs inputs
      → length (starts_of contents failures (opened_streams limit first specs) inputs) ≡ length specs
  all_starts first [] [] p = refl
  all_starts first [] (input ∷ inputs) p = absurd p
  all_starts first (spec ∷ specs) [] p = absurd p
  all_starts first (spec ∷ specs) (input ∷ inputs) p = ap suc (all_starts (suc first) specs inputs p.1)

  pub is_beginning : (setup : Setup) (inputs : List (ReaderState × W)) → AreInputs setup.streams inputs
      → IsLimit (length setup.streams) limit → IsBeginning (beginning_of contents failures setup limit inputs)
  is_beginning setup inputs p is = record {
    numbers = are_from contents failures limit 0 setup.streams inputs;
    sized = all_sized 0 setup.streams inputs p;
    few = omega (arith, all_starts 0 setup.streams inputs p, is.closes, is.most);
    each = all_starts 0 setup.streams inputs p ∙ sym (same_length opened setup.streams);
  }

-- the journal of a session

pub no_entry : (first last : ScheduleValue) → first ≡ last → LeadsTo first [] last
no_entry first last same =
    subst (λ (x : ScheduleValue). LeadsTo first [] x) same
    (record { is_journal = record { entries = tt; leads = (tt, refl) }; specs = refl })

none_more : (xs ys : List StreamSpec) → length (xs ++ ys) ≡ length xs → ys ≡ []
none_more xs [] e = refl
none_more xs (y ∷ ys) e = absurd (omega (arith, e, length-append xs (y ∷ ys)))

-- behind a journal comes that of a book which opened where it leads to, and has as many streams
pub leads_on : (first last : ScheduleValue) (journal : List Entry) (book : BookValue) → LeadsTo first journal last
    → IsBook book → book.opening ≡ last → length book.desk.streams ≡ length first.streams → LeadsTo first (book.past ++ journal) book.desk
leads_on first last journal book led is same few =
    let more : List StreamSpec = added (book_transcript book) in
    let specs : specs_of book.desk ≡ specs_of first ++ more =
    specs_led book.opening book.desk (book_transcript book) is.journal.leads
    ∙ ap (λ (x : ScheduleValue). specs_of x ++ more) same ∙ ap (λ (xs : List StreamSpec). xs ++ more) led.specs in
    let none : more ≡ [] = none_more (specs_of first) more (omega (
      arith,
      few,
      ap length specs,
      same_length (λ (stream : KeptStream). stream.state.spec) book.desk.streams,
      same_length (λ (stream : KeptStream). stream.state.spec) first.streams,
    )) in
    let all : specs_of first ++ more ≡ specs_of first =
    ap (λ (xs : List StreamSpec). specs_of first ++ xs) none ∙ append-nil (specs_of first) in
    let behind : IsJournal (specs_of first ++ more) (desk_state last) book.past (desk_state book.desk) =
    subst (λ (x : ScheduleValue). IsJournal (specs_of first ++ more) (desk_state x) book.past (desk_state book.desk)) same
    (subst (λ (xs : List StreamSpec). IsJournal xs (desk_state book.opening) book.past (desk_state book.desk)) specs is.journal) in
    record {
      is_journal = subst (λ (xs : List StreamSpec). IsJournal xs (desk_state first) (book.past ++ journal) (desk_state book.desk)) all
          (joined_is (specs_of first) more (desk_state first) (desk_state last) (desk_state book.desk) journal book.past
          led.is_journal behind).0;
      specs = specs ∙ all;
    }

opened_specs : (specs : List StreamSpec) → map (λ (stream : KeptStream). stream.state.spec) (map opened specs) ≡ specs
opened_specs [] = refl
opened_specs (spec ∷ specs) = ap (λ (these : List StreamSpec). spec ∷ these) (opened_specs specs)

-- a journal from where a setup opens is one of its streams
pub from_setup : (setup : Setup) (journal : List Entry) (last : ScheduleValue) → LeadsTo (opened_schedule setup) journal last
    → IsJournal setup.streams (desk_state (opened_schedule setup)) journal (desk_state last)
from_setup setup journal last led =
    subst (λ (specs : List StreamSpec). IsJournal specs (desk_state (opened_schedule setup)) journal (desk_state last))
    (opened_specs setup.streams) led.is_journal

-- where a stream stands, its client may go on

pub ready_at : (start : ClientStart) (past : List Act) (seat : StreamSeatValue) (stream : StreamValue) → StandsAt stream start past seat
    → IsSizedStart start → IsReadyAt stream seat
ready_at start past seat (Waiting rest) a is = (rest_sized start past seat rest a is, (start, past, a))
ready_at start past seat (Over outcome) a is = tt

pub all_ready : (journal : List Entry) (starts : List ClientStart) (helds : List HeldValue) → AllBegin journal starts helds
    → AllByRecursion IsSizedStart starts → AllByRecursion IsReady helds
all_ready journal [] [] p is = tt
all_ready journal [] (held ∷ helds) p is = absurd p
all_ready journal (start ∷ starts) [] p is = absurd p
all_ready journal (start ∷ starts) (held ∷ helds) p is =
    (ready_at start (acts_in journal start) held.seat held.stream p.0 is.0, all_ready journal starts helds p.1 is.1)

-- the seats of the next epoch

pub reopened : (limit : ℕ) (seat : StreamSeatValue) → IsReopened seat (seat_over limit (left_by seat))
reopened limit seat = record {
  number = refl;
  spec = refl;
  accepted = refl;
  is_closed = refl;
  kept = refl;
  calls = refl;
  before = refl;
  torn = refl;
}

pub stands_across : (start : ClientStart) (past : List Act) (old new : StreamSeatValue) (stream : StreamValue) → IsReopened old new
    → StandsAt stream start past old → StandsAt stream start (past ++ old.calls.list) new
stands_across start past old new (Waiting rest) r a = (streams_cross start past old new r).0 rest a
stands_across start past old new (Over outcome) r a = (streams_cross start past old new r).1 outcome a

-- what the seats of an epoch leave
abbrev pub rests_of : List HeldValue → List StreamRest
rests_of helds = map left_by (map (λ (held : HeldValue). held.seat) helds)

abbrev stream_in : HeldValue → StreamValue
stream_in held = held.stream

all_cross : (limit : ℕ) (journal : List Entry) (starts : List ClientStart) (helds : List HeldValue) → AllStand journal starts helds
    → AllBegin journal starts (held_with (map (seat_over limit) (rests_of helds)) (map stream_in helds))
all_cross limit journal [] [] p = tt
all_cross limit journal [] (held ∷ helds) p = absurd p
all_cross limit journal (start ∷ starts) [] p = absurd p
all_cross limit journal (start ∷ starts) (held ∷ helds) p =
    let next : StreamSeatValue = seat_over limit (left_by held.seat) in (
      subst (λ (past : List Act). StandsAt held.stream start past next) p.0.2
          (stands_across start p.0.0 held.seat next held.stream (reopened limit held.seat) p.0.1),
      all_cross limit journal starts helds p.1,
    )

-- new seats have made no call

pub new_seats : (limit : ℕ) (rests : List StreamRest) → AllByRecursion HasNoCalls (map (seat_over limit) rests)
new_seats limit [] = tt
new_seats limit (rest ∷ rests) = ((refl, refl), new_seats limit rests)

pub held_new : (seats : List StreamSeatValue) (streams : List StreamValue)
    → AllByRecursion HasNoCalls seats → AllByRecursion (λ held. HasNoCalls held.seat) (held_with seats streams)
held_new [] streams none = tt
held_new (seat ∷ seats) [] none = tt
held_new (seat ∷ seats) (stream ∷ streams) none = (none.0, held_new seats streams none.1)

-- each stream stands with its seat of the next epoch where it stood
pub stand_again : (limit : ℕ) (journal : List Entry) (starts : List ClientStart)
    (helds : List HeldValue) (seats : List StreamSeatValue) (streams : List StreamValue) → AllStand journal starts helds
    → seats ≡ map (seat_over limit) (rests_of helds)
    → streams ≡ map (λ held. held.stream) helds → AllBegin journal starts (held_with seats streams)
stand_again limit journal starts helds seats streams p e f =
    subst (AllBegin journal starts) (sym (ap (λ (these : List StreamSeatValue). held_with these streams) e
    ∙ ap (λ (these : List StreamValue). held_with (map (seat_over limit) (rests_of helds)) these) f))
    (all_cross limit journal starts helds p)

pub on_ok : {T E : Type 0} (r : Result T E) (P : Type 0) → P → OnOk r P
on_ok (Ok t) P p = p
on_ok (Err e) P p = tt

pub on_err : {T E : Type 0} (r : Result T E) (P : Type 0) → P → OnErr r P
on_err (Ok t) P p = tt
on_err (Err e) P p = p

-- an interval that is left as it was, but that no epoch comes any more
pub still_between : {R W : Type 0} (b : Beginning) (epochs : List EpochValue) (old new : Interval R W) → new.ended ≡ old.ended
    → new.streams ≡ old.streams → new.served ≡ old.served → new.waits ≡ old.waits → IsTrue new.is_cut
    → IsBetween b epochs old → IsBetween b epochs new
still_between b epochs old new e f h w cut at = record {
  begun = at.begun;
  before = at.before;
  latest = rw e at.latest;
  in_turn = rw w at.in_turn;
  next = λ goes_on waits. absurd (cc);
  past = rw e at.past;
  helds = at.helds;
  stand = at.stand;
  streams = rw f at.streams;
  seats = rw e at.seats;
  kept = rw e at.kept;
  charges = rw e at.charges;
  limit = rw e at.limit;
  untold = rw h at.untold;
  places = rw h at.places;
  over = rw w (rw f at.over);
}
