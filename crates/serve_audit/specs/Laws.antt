-- What an audit says of the book of a hub.
use Rattle.std.specs.Prelude.{ℕ, ◌≡◌, List, reverse, slice_get}
use Rattle.std.specs.Option.{option_map}
use Rattle.serve_core.specs.Bare.{Blank}
use Rattle.serve_core.specs.Desk.{desk_state}
use Rattle.serve_core.specs.Retired.{retired, retired_schedule}
use Rattle.serve_core.specs.Schedule.{ScheduleValue, account_of, counts_of}
use Rattle.serve_core.specs.States.{State}
use Rattle.serve_hub.specs.declared.entry.Entry.{Entry}
use Rattle.serve_hub.specs.Books.{BookValue, IsBook, opening_of, specs_of}
use Rattle.serve_hub.specs.Journal.{IsJournal}
use Rattle.serve_audit.specs.Audit.{IsHistory}

-- the journal of a book, the oldest entry first, is a legal history from where the book opened
abbrev pub BookLaw : Type 0
BookLaw = (b : BookValue) → IsBook b → IsHistory (specs_of b.desk) (opening_of b) (reverse b.past)

-- and where a tally ends that accepted it is where the book's desk is
abbrev pub EndLaw : Type 0
EndLaw =
    (b : BookValue) (journal : List Entry) (m : State Blank) → IsBook b → reverse journal ≡ b.past
    → IsJournal (specs_of b.desk) (opening_of b) (reverse journal) m → m ≡ desk_state b.desk

-- there each stream has the account and the counts that the end of a hub tells
abbrev pub SameLaw : Type 0
SameLaw =
    (x : ScheduleValue) (s : ℕ)
    → (option_map account_of (slice_get (desk_state x).streams s)
    ≡ option_map (λ stream. account_of stream.state) (slice_get x.streams s))
    × (option_map counts_of (slice_get (desk_state x).streams s)
    ≡ option_map (λ stream. counts_of stream.state) (slice_get x.streams s))

-- a tally whose released streams are taken out is where the next hub opens whose end had them taken out
abbrev pub RetireLaw : Type 0
RetireLaw = (x : ScheduleValue) → desk_state (retired_schedule x) ≡ retired (desk_state x)
