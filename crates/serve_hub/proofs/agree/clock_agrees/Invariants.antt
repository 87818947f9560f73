use Rattle.std.proofs.Common.{◌≡◌, List, reverse, take}
use Rattle.serve_core.specs.Bare.{Blank}
use Rattle.serve_core.specs.Setup.{StreamSpec}
use Rattle.serve_core.specs.States.{State}
use Rattle.serve_hub.specs.Ends.{ClockReached}
use Rattle.serve_hub.specs.Journal.{clock_in}
use Rattle.serve_hub.proofs.agree.clock_agrees.Given as goal

abbrev pub invariant-loop-entry : goal.invariant-loop-entry
invariant-loop-entry l =
    (specs : List StreamSpec) (opening : State Blank) → opening.clock ≡ l.opened_at
    → (l.clock ≡ clock_in specs opening (reverse (take l.entry-index l.journal)))
    × ClockReached l.number l.moments specs opening (reverse (take l.entry-index l.journal))
