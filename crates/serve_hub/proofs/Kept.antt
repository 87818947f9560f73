-- A book with one entry more.
use Rattle.std.proofs.Common.{ℕ, ◌+◌, ◌≡◌, ◌≤◌, List, [], ◌∷◌, ◌++◌, length, reverse, Some, slice_get, sum, ◌∙◌, ap}
use Rattle.std.proofs.Common.{arith, sym, subst}
use Rattle.std.proofs.lemmas.List.{reverse-append}
use Rattle.serve_core.specs.Bare.{Blank, measures_any, is_any_image}
use Rattle.serve_core.specs.Desk.{LeadsDesk, desk_state}
use Rattle.serve_core.specs.Events.{Transcript}
use Rattle.serve_core.specs.Leads.{state_from}
use Rattle.serve_core.specs.Schedule.{ScheduleValue}
use Rattle.serve_core.specs.Setup.{StreamSpec}
use Rattle.serve_core.specs.States.{State}
use Rattle.serve_core.proofs.Transcripts.Openings.{sound_from}
use Rattle.serve_hub.specs.declared.entry.Act.{Act}
use Rattle.serve_hub.specs.declared.entry.Entry.{Entry}
use Rattle.serve_hub.specs.declared.entry.Seat.{Seat}
use Rattle.serve_hub.specs.Books.{BookValue, IsBook, book_transcript, charges, opening_of, specs_of, taken}
use Rattle.serve_hub.specs.Journal.{IsEntry, IsJournal, entry_of, events_of, transcript_of, units_from}
use Rattle.serve_hub.proofs.Journals.{journal_behind, one_more_entry}
use Rattle.serve_hub.proofs.Specs.{added, specs_led}
use Rattle.serve_hub.proofs.Units.{units_joined}

-- the latest entry is pushed last
pub pushed : (xs ys : List Entry) (e : Entry) → ys ≡ xs ++ e ∷ [] → reverse ys ≡ e ∷ reverse xs
pushed xs ys e is = ap reverse is ∙ reverse-append xs (e ∷ [])

-- a book with one entry more, and with these units
abbrev pub grown : BookValue → Seat → Act → ScheduleValue → List ℕ → BookValue
grown b seat act desk units = record b { past = entry_of seat act ∷ b.past; desk = desk; units = units }

-- the units of the entry's events are added
abbrev pub AddsUnits : BookValue → ScheduleValue → Seat → Act → List ℕ → Type 0
AddsUnits b desk seat act units =
    (w n : ℕ) → slice_get units w ≡ Some n
    → (m : ℕ) × (slice_get b.units w ≡ Some m)
    × (n ≡ m + units_from (desk_state b.desk) w (events_of (specs_of desk) (desk_state b.desk) seat act))

-- the journal, where more streams may be behind
journal_still : (b : BookValue) (desk : ScheduleValue) (p : Transcript Blank Blank) → IsBook b
    → LeadsDesk b.desk p desk
    → IsJournal (specs_of desk) (opening_of b) b.past (desk_state b.desk)
    × (transcript_of (specs_of desk) (opening_of b) b.past ≡ book_transcript b)
journal_still b desk p h led =
    subst (λ (all : List StreamSpec). IsJournal all (opening_of b) b.past (desk_state b.desk)
    × (transcript_of all (opening_of b) b.past ≡ book_transcript b)) (sym (specs_led b.desk desk p led))
    (journal_behind (specs_of b.desk) (added p) (opening_of b) (desk_state b.desk) b.past h.journal)

pub one_more : (b : BookValue) (seat : Seat) (act : Act) (desk : ScheduleValue) (units : List ℕ) → IsBook b
    → LeadsDesk b.desk (events_of (specs_of desk) (desk_state b.desk) seat act) desk
    → IsEntry (specs_of desk) (desk_state b.desk) seat act
    → length units ≡ length desk.workers → AddsUnits b desk seat act units
    → sum units + charges b.opening ≡ charges desk → taken (grown b seat act desk units) ≤ b.limit → IsBook (grown b seat act desk units)
one_more b seat act desk units h led is workers adds sums fits =
    let specs = specs_of desk in
    let o = opening_of b in
    let still = journal_still b desk (events_of specs (desk_state b.desk) seat act) h led in
    record {
      sound = sound_from measures_any is_any_image (desk_state b.desk) (desk_state desk)
          (events_of specs (desk_state b.desk) seat act) h.sound led;
      journal = one_more_entry specs o (desk_state b.desk) (desk_state desk) b.past seat act still.0 is led;
      workers = workers;
      units = λ w n e.
          let a = adds w n e in
          let p = transcript_of specs o b.past in
          let q = events_of specs (state_from o p) seat act in
          let same = ap (λ (m : State Blank). units_from m w (events_of specs m seat act)) still.0.leads.1 in
          let before = ap (units_from o w) still.1 in
          omega (arith, a.2, h.units w a.0 a.1, units_joined o w p q, same, before);
      charges = sums;
      fits = fits;
    }
