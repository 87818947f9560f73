use Rattle.std.proofs.Common.{◌≡◌, take}
use Rattle.serve_report.specs.Entrants.{units_in}
use Rattle.serve_report.proofs.serve.rows.units_in.Given as goal

abbrev pub invariant-loop-row : goal.invariant-loop-row
invariant-loop-row l = l.units ≡ units_in (take l.row-index l.rows)
