use Rattle.std.proofs.Common.{ℕ, ◌<◌, ◌≡◌, Option, Some, None, slice_get}
use Rattle.serve_core.specs.declared.held.Held.{Held}
use Rattle.serve_core.proofs.tally.are_free.Given as goal

abbrev pub invariant-loop-worker : goal.invariant-loop-worker
invariant-loop-worker l =
    (w : ℕ) (h : Option Held) → w < l.worker-index → slice_get l.workers w ≡ Some h → h ≡ None
