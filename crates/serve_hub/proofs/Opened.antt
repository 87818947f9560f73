-- A book before any entry.
use Rattle.std.proofs.Common.{ℕ, zero, suc, ◌≡◌, ◌≤◌, Bool, true, false, List, [], ◌∷◌, length, map}
use Rattle.std.proofs.Common.{replicate, Some, None, if◌then◌else◌}
use Rattle.std.proofs.Common.{slice_get, sum_by, length-append, Option, reverse, refl, sym, ◌∙◌, ap, subst, arith}
use Rattle.std.proofs.lemmas.List.{length-map, length-replicate}
use Rattle.std.proofs.lemmas.List.Folds.{sum_by-replicate}
use Rattle.std.proofs.lemmas.List.Sums.{sum_by-cons}
use Rattle.serve_core.specs.declared.held.Held.{Held}
use Rattle.serve_core.specs.Bare.{Blank, measures_any, is_any_image}
use Rattle.serve_core.specs.Counts.{held_after}
use Rattle.serve_core.specs.Desk.{desk_state}
use Rattle.serve_core.specs.Events.{Start, Then, Transcript}
use Rattle.serve_core.specs.Leads.{state_from}
use Rattle.serve_core.specs.Schedule.{ScheduleValue, opened_schedule}
use Rattle.serve_core.specs.Setup.{IsSetup, IsWithin, Setup, StreamSpec}
use Rattle.serve_core.specs.Sound.{Sound}
use Rattle.serve_core.specs.States.{State}
use Rattle.serve_core.specs.Streams.{KeptStream, opened}
use Rattle.serve_core.proofs.Calls.Desks.{desk_opened}
use Rattle.serve_core.proofs.Events.Kept.{opening_sound}
use Rattle.serve_core.proofs.Transcripts.Reached.{length-map_at}
use Rattle.std.specs.Vec.{vec_capacity}
use Rattle.serve_hub.specs.declared.book.Book.TheInside.{Inside}
use Rattle.serve_hub.specs.declared.entry.Entry.{Entry}
use Rattle.serve_hub.specs.BookInside.{IsKept, book}
use Rattle.cbs_account.specs.declared.limits.TheConstants.{MOST_ENTRIES}
use Rattle.serve_hub.specs.Books.{BookValue, IsBook, IsLimit, book_transcript, one_open, one_out, opened_book}
use Rattle.serve_hub.specs.Books.{opening_of, reserved, specs_of, taken}
use Rattle.serve_hub.specs.Ends.{AreFree, IsOpening}
use Rattle.serve_hub.proofs.Specs.{added, specs_led}

all_open : (specs : List StreamSpec) → sum_by one_open (map opened specs) ≡ length specs
all_open [] = refl
all_open (spec ∷ specs) =
    omega (arith, sum_by-cons one_open (opened spec) (map opened specs), all_open specs)

pub places_opened : (setup : Setup) → reserved (opened_schedule setup) ≡ length setup.streams
places_opened setup =
    let none : Option Held = None in
    omega (arith, sum_by-replicate one_out setup.workers none, all_open setup.streams)

pub no_units : (n w m : ℕ) → slice_get (replicate n 0) w ≡ Some m → m ≡ 0
no_units zero w m e = absurd (cc)
no_units (suc n) zero m e = cc
no_units (suc n) (suc w) m e = no_units n w m e

-- where no lease is out, an entry is reserved for each stream at most
none_out : (workers : List (Option Held)) → AreFree workers → sum_by one_out workers ≡ 0
none_out [] free = refl
none_out (Some held ∷ workers) free = absurd (free 0 held refl)
none_out (None ∷ workers) free =
    omega (arith, sum_by-cons one_out None workers, none_out workers (λ w held e. free (suc w) held e))

one_or_none : (b : Bool) → (if b then 0 else 1) ≤ 1
one_or_none true = omega arith
one_or_none false = omega arith

few_open : (streams : List KeptStream) → sum_by one_open streams ≤ length streams
few_open [] = omega arith
few_open (stream ∷ streams) =
    omega (arith, sum_by-cons one_open stream streams, few_open streams, one_or_none stream.state.is_closed)

-- there is one for each open stream, and no other
pub only_closes : (x : ScheduleValue) → AreFree x.workers → reserved x ≡ sum_by one_open x.streams
only_closes x free = omega (arith, none_out x.workers free)

pub few_reserved : (x : ScheduleValue) → AreFree x.workers → reserved x ≤ length x.streams
few_reserved x free = omega (arith, only_closes x free, few_open x.streams)

-- a book without entries over any desk
is_book_over : (desk : ScheduleValue) (limit : ℕ) → Sound (desk_state desk) → reserved desk ≤ limit
    → IsBook (opened_book desk limit)
is_book_over desk limit sound fits = record {
  sound = sound;
  journal = record { entries = tt; leads = (tt, refl) };
  workers = length-replicate (length desk.workers) 0;
  units = λ w m e. no_units (length desk.workers) w m e;
  charges = omega (arith, sum_by-replicate (λ (n : ℕ). n) (length desk.workers) 0);
  fits = omega (arith, fits);
}

same_book : (o d x : ScheduleValue) (p : List Entry) (l : ℕ) (u : List ℕ) (ending : Bool) → o ≡ d → d ≡ x → p ≡ []
    → u ≡ replicate (length x.workers) 0 → ending ≡ false
    → let b : BookValue = record { opening = o; past = p; desk = d; limit = l; units = u; is_ending = ending } in
    b ≡ opened_book x l
same_book o d x p l u ending e f g h i = cc

-- what a book keeps that is opened over a desk
pub kept_over : (z : Inside) (x : ScheduleValue) → Sound (desk_state x) → reserved x ≤ z.limit → z.limit ≤ MOST_ENTRIES
    → z.opening.value ≡ z.desk → z.desk ≡ x → z.journal.items ≡ []
    → z.units.items ≡ replicate (length x.workers) 0 → z.taken ≡ reserved x → z.limit ≤ vec_capacity z.journal
    → z.is_ending ≡ false → IsKept z
kept_over z x sound fits most o d j u t room unmarked =
    let is : book z ≡ opened_book x z.limit =
    same_book z.opening.value z.desk x (reverse z.journal.items) z.limit z.units.items z.is_ending o d (ap reverse j) u unmarked in
    record {
      is_book = subst IsBook (sym is) (is_book_over x z.limit sound fits);
      counted = omega (arith, t, ap taken is);
      limit = most;
      reserved = room;
      few = λ w n e.
          let none : n ≡ 0 = no_units (length x.workers) w n (rw u at e) in omega (arith, none);
    }

pub over_is : (z : Inside) (x : ScheduleValue) → z.opening.value ≡ z.desk → z.desk ≡ x → z.journal.items ≡ []
    → z.units.items ≡ replicate (length x.workers) 0 → z.is_ending ≡ false → book z ≡ opened_book x z.limit
over_is z x o d j u unmarked =
    same_book z.opening.value z.desk x (reverse z.journal.items) z.limit z.units.items z.is_ending o d (ap reverse j) u unmarked

-- what a new book keeps
pub kept_opened : (z : Inside) (setup : Setup) → IsWithin setup → IsLimit (length setup.streams) z.limit
    → z.opening.value ≡ z.desk → z.desk ≡ opened_schedule setup → z.journal.items ≡ []
    → z.units.items ≡ replicate setup.workers 0 → z.taken ≡ length setup.streams
    → z.limit ≤ vec_capacity z.journal → z.is_ending ≡ false → IsKept z
kept_opened z setup v l o d j u t room unmarked =
    let none : Option Held = None in
    let n : length (opened_schedule setup).workers ≡ setup.workers = length-replicate setup.workers none in
    let sound : Sound (desk_state (opened_schedule setup)) =
    subst Sound (sym (desk_opened setup)) (opening_sound measures_any is_any_image setup v) in
    kept_over z (opened_schedule setup) sound (omega (arith, places_opened setup, l.closes)) l.most o d j
    (u ∙ ap (λ (k : ℕ). replicate k 0) (sym n)) (omega (arith, t, places_opened setup)) room unmarked

-- a book that is opened over the desk of a setup
pub is_opening : (opening of_book : ScheduleValue) (setup : Setup) (w : ℕ) → IsSetup setup
    → of_book ≡ opened_schedule setup → opened_schedule setup ≡ opening → w ≡ setup.workers
    → IsOpening opening of_book w
is_opening opening of_book setup w is made named workers =
    let none : Option Held = None in
    record {
      same = made ∙ named;
      reached = record {
        setup = setup;
        is_setup = is;
        past = Start;
        legal = tt;
        state = sym (desk_opened setup) ∙ ap desk_state named;
      };
      each_worker = sym (ap (λ (x : ScheduleValue). length x.workers) named) ∙ length-replicate setup.workers none
          ∙ sym workers;
    }

-- transcripts change no number of workers
workers_from : (m : State Blank) (p : Transcript Blank Blank)
    → length (state_from m p).workers ≡ length m.workers
workers_from m Start = refl
workers_from m (Then p e r) =
    length-map_at 0 (λ w h. held_after w h e r) (state_from m p).workers ∙ workers_from m p

pub same_workers : (b : BookValue) → IsBook b → length b.desk.workers ≡ length b.opening.workers
same_workers b h =
    let now : state_from (opening_of b) (book_transcript b) ≡ desk_state b.desk = h.journal.leads.1 in
    sym (ap (λ (m : State Blank). length m.workers) now) ∙ workers_from (opening_of b) (book_transcript b)

-- the streams that a book opened with stay
pub more_streams : (b : BookValue) → IsBook b → length b.opening.streams ≤ length b.desk.streams
more_streams b h =
    let p = book_transcript b in
    let spec = λ (stream : KeptStream). stream.state.spec in
    omega (
      arith,
      ap length (specs_led b.opening b.desk p h.journal.leads),
      length-append (specs_of b.opening) (added p),
      length-map b.opening.streams spec,
      length-map b.desk.streams spec,
    )
