-- What it is for a history to be legal, and how an audit answers.
use Rattle.std.specs.Prelude.{ℕ, ◌≡◌, ◌↔◌, Bool, IsTrue, List, reverse, take, slice_get, Some}
use Rattle.serve_core.specs.Bare.{Blank, measures_any, is_any_image}
use Rattle.serve_core.specs.Events.{Transcript}
use Rattle.serve_core.specs.Leads.{IsLegalFrom, state_from}
use Rattle.serve_core.specs.Setup.{StreamSpec}
use Rattle.serve_core.specs.States.{State}
use Rattle.serve_hub.specs.declared.entry.Entry.{Entry}
use Rattle.serve_hub.specs.Journal.{IsEntry, IsJournal, events_of}

-- the events with their replies are right from a state on
abbrev pub IsLegal : State Blank → Transcript Blank Blank → Type 0
IsLegal m p = IsLegalFrom measures_any is_any_image m p

-- the answer is true exactly where the premise holds and the transcript is legal, and then that leads to the
-- new state
pub record FollowsIf (Premise : Type 0) (old : State Blank) (p : Transcript Blank Blank) (answer : Bool)
    (new : State Blank) : Type 0 where
  pub right : IsTrue answer ↔ (Premise × IsLegal old p)
  pub leads : IsTrue answer → state_from old p ≡ new

-- the same without a premise
pub record Follows (old : State Blank) (p : Transcript Blank Blank) (answer : Bool) (new : State Blank)
    : Type 0 where
  pub right : IsTrue answer ↔ IsLegal old p
  pub leads : IsTrue answer → state_from old p ≡ new

-- an entry is right in a state: it is one, and its events have right replies
abbrev pub IsRightEntry : List StreamSpec → State Blank → Entry → Type 0
IsRightEntry specs m e = IsEntry specs m e.seat e.act × IsLegal m (events_of specs m e.seat e.act)

-- the answer is true exactly where the entry is right, and then its events lead to the new state
pub record Checked (specs : List StreamSpec) (old : State Blank) (e : Entry) (answer : Bool)
    (new : State Blank) : Type 0 where
  pub right : IsTrue answer ↔ IsRightEntry specs old e
  pub leads : IsTrue answer → state_from old (events_of specs old e.seat e.act) ≡ new

-- entries, the oldest first, are a legal journal from a state on
abbrev pub IsHistory : List StreamSpec → State Blank → List Entry → Type 0
IsHistory specs opening entries = (m : State Blank) × IsJournal specs opening (reverse entries) m

-- the entries before place i are a legal journal, and that at it isn't right then
pub record IsFirstWrong (specs : List StreamSpec) (opening : State Blank) (entries : List Entry) (i : ℕ)
    : Type 0 where
  pub state : State Blank
  pub before : IsJournal specs opening (reverse (take i entries)) state
  pub entry : Entry
  pub here : slice_get entries i ≡ Some entry
  pub wrong : ¬ IsRightEntry specs state entry
