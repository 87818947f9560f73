use Rattle.std.proofs.Common.{◌≡◌, ◌≤◌, length, take}
use Rattle.serve_hub.specs.Ends.{acts_of}
use Rattle.serve_hub.proofs.agree.agrees.Given as goal

abbrev pub invariant-loop-entry : goal.invariant-loop-entry
invariant-loop-entry l =
    (l.next ≤ length l.calls) × (acts_of l.seat (take l.entry-index l.journal) ≡ take l.next l.calls)
