-- The streams of a run, and what is reported of them.
use Rattle.std.specs.Prelude.{ℕ, ◌+◌, ◌-◌, ◌^◌, ◌≡◌, ◌≢◌, ◌⊎◌, min, Bool, true, false, List, [], ◌∷◌, ◌++◌}
use Rattle.std.specs.Prelude.{codes, decimal, fold, map}
use Rattle.std.specs.Prelude.{Option, Some, None, Ok, option_and_then}
use Rattle.std.specs.Borrow.{Bor}
use Rattle.std.specs.Io.KnownBytes.{Appends}
use Rattle.std.specs.List.{AllByRecursion, AllZip, flat_map, list_all}
use Rattle.std.specs.Option.{option_map}
use Rattle.serve_core.specs.Setup.{StreamSpec, setup_of}
use Rattle.serve_script.specs.ScriptReport.{line_text}
use Rattle.serve_report.specs.Apart.{AreErrorsApart, FilesGive, OfPlace}
use Rattle.serve_report.specs.Moments.{AreMoments, IsMoment}
use Rattle.serve_report.specs.Openings.{IsOpening, OfName, Opening, entrant_of, specs_in, starts_in}
use Rattle.serve_words.specs.ServeChecks.{AreSaid, ChecksGive, HasOptions, all_told}
use Rattle.serve_report.specs.ServeReport.{row_text, stop_told}
use Rattle.serve_words.specs.declared.checks.Checked.{Checked}
use Rattle.serve_report.specs.declared.serve.opening.Entrant.{Entrant}
use Rattle.serve_report.specs.declared.serve.report.StreamRow.{StreamRow}
use Rattle.serve_report.specs.declared.serve.report.StreamStop.{StreamStop}
use Rattle.serve_report.specs.declared.serve.report.StreamStop.TheVariants as stops
use Rattle.serve_words.specs.declared.request.ServeWords.{ServeWords}
use Rattle.serve_client.specs.declared.stop.Cause.TheVariants.{ClockEnd}
use Rattle.serve_client.specs.declared.stop.Stop.TheVariants.{Refused}
use Rattle.serve_client.specs.Clients.{ClientStart}
use Rattle.serve_client.specs.Streams.{ServedValue}
use Rattle.serve_work.specs.Sessions.{IsSession}

-- a stream that takes part in the session
abbrev pub entered : Bor (List ℕ) → Entrant
entered name = record { name = name; stop = None }

-- a stream that stopped before it
abbrev pub stopped : Bor (List ℕ) → StreamStop → Entrant
stopped name stop = record { name = name; stop = Some stop }

-- what is reported of a stream that stopped before the session
abbrev pub stopped_row : Bor (List ℕ) → StreamStop → StreamRow
stopped_row name stop = record { name = name; accepted = 0; delivered = 0; charged = 0; stop = stop }

-- what is reported of one of which the session left this
abbrev pub served_row : Bor (List ℕ) → ServedValue → StreamRow
served_row name served = record {
  name = name;
  accepted = served.outcome.accepted;
  delivered = served.outcome.delivered;
  charged = served.charged;
  stop = stop_told served.outcome.stop;
}

-- what is reported of a stream, and what the session left of those after it
abbrev pub next_row : {S : Type 0} → (S → StreamRow) → List S → Option (StreamRow × List S)
next_row row [] = None
next_row row (served ∷ later) = Some (row served, later)

module _ {S : Type 0} (row : Bor (List ℕ) → S → StreamRow) where
  abbrev pub given_at : Bor (List ℕ) → Option StreamStop → List S → Option (StreamRow × List S)
  given_at name None left = next_row (row name) left
  given_at name (Some stop) left = Some (stopped_row name stop, left)

  abbrev pub next_given : Entrant → List S → Option (StreamRow × List S)
  next_given entrant left = given_at entrant.name entrant.stop left

  -- what is reported of streams, in order, where a session left this of those that took part
  abbrev pub rows_given : List Entrant → List S → Option (List StreamRow)
  rows_given [] left = Some []
  rows_given (entrant ∷ more) left =
      option_and_then (λ next. option_map (λ rows. next.0 ∷ rows) (rows_given more next.1))
      (next_given entrant left)

abbrev pub row_told : {S : Type 0} → StreamRow × Bor (List S) → StreamRow × List S
row_told next = (next.0, next.1.now)

abbrev pub is_whole_stop : StreamStop → Bool
is_whole_stop stops.Whole = true
is_whole_stop stop = false

abbrev pub is_whole : StreamRow → Bool
is_whole row = is_whole_stop row.stop

-- the units that were done for all streams, or the greatest number of 64 bits
abbrev pub units_in : List StreamRow → ℕ
units_in rows = fold (λ units row. min (units + row.charged) (2 ^ 64 - 1)) 0 rows

abbrev pub rows_text : List StreamRow → List ℕ
rows_text rows = flat_map (λ row. line_text (row_text row)) rows

-- a line for each stream, and then `units N`
abbrev pub report_text : List StreamRow → List ℕ
report_text rows = rows_text rows ++ line_text (codes "units " ++ decimal (units_in rows))

-- what a session of these streams, by a clock that may give these moments and with at most so many entries in
-- an epoch's journal, left of them; where none takes part there is none
abbrev pub Leaves : (Gives : ℕ → Type 0) → (workers quantum journal : ℕ) → List StreamSpec → List ClientStart
    → List ServedValue → Type 0
Leaves Gives workers quantum journal specs starts left =
    ((specs ≡ []) × (left ≡ [])) ⊎ IsSession Gives (setup_of workers quantum specs) journal starts left

-- a stream wasn't stopped since the clock had ended
abbrev pub IsInTime : ServedValue → Type 0
IsInTime served = served.outcome.stop ≢ Refused ClockEnd

-- each row tells of its stream: why it took no part, or what the session left of it; a clock that gives no
-- moment past the last stops none
pub record Tells (Gives : ℕ → Type 0) (workers quantum journal : ℕ) (openings : List Opening)
    (rows : List StreamRow) : Type 0 where
  pub left : List ServedValue
  pub session : Leaves Gives workers quantum journal (specs_in openings) (starts_in journal openings) left
  pub given : rows_given served_row (map entrant_of openings) left ≡ Some rows
  pub in_time : AreMoments Gives → AllByRecursion IsInTime left

-- the streams were opened as their words ask, and the rows tell of them
pub record Serves (OpenGives CreateGives : OfName) (Gives : ℕ → Type 0) (checked : Checked)
    (rows : List StreamRow) : Type 0 where
  pub openings : List Opening
  pub opened : AllZip (IsOpening OpenGives CreateGives checked.height) checked.streams.items openings
  pub tells : Tells Gives checked.workers checked.quantum checked.journal openings rows

-- what is reported of these streams, in their order, went out; and whether all of them are whole
pub record Reports (OpenGives CreateGives : OfName) (Gives : ℕ → Type 0) (checked : Checked)
    (old new : Option (List ℕ)) (whole : Bool) : Type 0 where
  pub rows : List StreamRow
  pub serves : Serves OpenGives CreateGives Gives checked rows
  pub all : whole ≡ list_all is_whole rows
  pub wrote : Appends old new (report_text rows)

-- the streams that the words ask for are all whole, with files that are told apart, and what is reported of
-- them went out
pub record ServesAll (PlaceGives : OfPlace) (OpenGives CreateGives : OfName) (words : ServeWords)
    (old new : Option (List ℕ)) : Type 0 where
  pub checked : Checked
  pub options : HasOptions words checked
  pub asked : ChecksGive words (Ok (all_told checked.streams.items))
  pub said : AreSaid checked.streams.items
  pub apart : FilesGive PlaceGives (all_told checked.streams.items) None
  pub errors_apart : AreErrorsApart PlaceGives (all_told checked.streams.items)
  pub reported : Reports OpenGives CreateGives IsMoment checked old new true
