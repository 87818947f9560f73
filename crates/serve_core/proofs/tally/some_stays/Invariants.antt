use Rattle.std.proofs.Common.{ℕ, ◌<◌, ◌≡◌, Some, true, slice_get}
use Rattle.serve_core.specs.Bare.{Blank}
use Rattle.serve_core.specs.Released.{is_released}
use Rattle.serve_core.specs.States.{StreamState}
use Rattle.serve_core.proofs.tally.some_stays.Given as goal

abbrev pub invariant-loop-row : goal.invariant-loop-row
invariant-loop-row l =
    (i : ℕ) (x : StreamState Blank) → i < l.row-index → slice_get l.rows i ≡ Some x → is_released l.moment x ≡ true
