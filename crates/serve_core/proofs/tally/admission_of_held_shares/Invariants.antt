use Rattle.std.proofs.Common.{◌≡◌, take}
use Rattle.serve_core.specs.Tally.{held_of_rows}
use Rattle.serve_core.proofs.tally.admission_of_held_shares.Given as goal

abbrev pub invariant-loop-row : goal.invariant-loop-row
invariant-loop-row l = l.admission ≡ held_of_rows l.fn.workers l.fn.moment (take l.row-index l.fn.rows)
