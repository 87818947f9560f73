-- What a tally answers where it is told of an event with its reply.
use Rattle.std.specs.Prelude.{ℕ, ◌≡◌, ◌↔◌, Bool, IsTrue, IsFalse, IsSomeAnd, List, slice_get, sum_by}
use Rattle.cbs_account.specs.Admission.{Load}
use Rattle.serve_core.specs.Bare.{Blank, measures_any, is_any_image}
use Rattle.serve_core.specs.Events.{Event, Reply}
use Rattle.serve_core.specs.Released.{held_share}
use Rattle.serve_core.specs.Rules.{Allows}
use Rattle.serve_core.specs.Setup.{steps}
use Rattle.serve_core.specs.States.{State, StreamState, after}

-- in a state the reply to an event is right
abbrev pub IsRightReply : State Blank → Event Blank → Reply Blank Blank → Type 0
IsRightReply m e r = Allows measures_any is_any_image m e r

-- the answer is true exactly where the reply is right. Then the tally goes on to what both make of its state,
-- and else it stays
pub record Checks (old : State Blank) (e : Event Blank) (r : Reply Blank Blank) (answer : Bool)
    (new : State Blank) : Type 0 where
  pub right : IsTrue answer ↔ IsRightReply old e r
  pub on : IsTrue answer → new ≡ after old e r
  pub same : IsFalse answer → new ≡ old

-- all bands of this frame of stream s are done, which is its first unfinished one
abbrev pub Ends : State Blank → (s number : ℕ) → Type 0
Ends m s number = IsSomeAnd (slice_get m.streams s) (λ x. (x.done ≡ steps x.spec) × (number ≡ x.finished))

-- the workers, and the shares that these streams hold of them
abbrev pub held_of_rows : (workers moment : ℕ) → List (StreamState Blank) → Load
held_of_rows workers moment rows = record { workers = workers; shares = sum_by (held_share moment) rows }
