use Rattle.std.proofs.Common.{ℕ, ◌<◌, ◌≢◌, Some, slice_get}
use Rattle.serve_core.specs.declared.held.Held.{Held}
use Rattle.serve_hub.proofs.book.Book.is_free.Given as goal

abbrev pub invariant-loop-w : goal.invariant-loop-w
invariant-loop-w l =
    (w : ℕ) (held : Held) → w < l.w → slice_get l.self.desk.workers w ≢ Some (Some held)
