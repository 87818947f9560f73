-- What is said of the entries of a journal.
use Rattle.std.specs.Prelude.{ℕ, ◌≡◌, ⊤, List, [], ◌∷◌, if◌then◌else◌, sum_by}
use Rattle.serve_core.specs.Bare.{Blank}
use Rattle.serve_core.specs.Setup.{StreamSpec}
use Rattle.serve_core.specs.States.{State}
use Rattle.serve_hub.specs.declared.entry.Entry.{Entry}
use Rattle.serve_hub.specs.declared.entry.Seat.TheVariants.{Stream}
use Rattle.serve_hub.specs.Journal.{clock_in}
use Rattle.serve_client.specs.Clients.{IsAtMoment}

-- by a journal from an opening state on, the latest entry first, each entry of a frame of stream s has a
-- moment that the clock may give, by the journal's own clock as it was before that entry
abbrev pub AreTimed : (Gives : ℕ → Type 0) → (s : ℕ) → List StreamSpec → (opening : State Blank) → List Entry
    → Type 0
AreTimed Gives s specs opening [] = ⊤
AreTimed Gives s specs opening (e ∷ past) =
    AreTimed Gives s specs opening past
    × (e.seat ≡ Stream s → IsAtMoment Gives (clock_in specs opening past) e.act)

-- how many streams aren't closed
abbrev pub open_streams : State Blank → ℕ
open_streams m = sum_by (λ x. if x.is_closed then 0 else 1) m.streams
