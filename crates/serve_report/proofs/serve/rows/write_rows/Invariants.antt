use Rattle.std.proofs.Common.{take}
use Rattle.std.specs.Io.KnownBytes.{Appends}
use Rattle.serve_report.specs.Entrants.{rows_text}
use Rattle.serve_report.proofs.serve.rows.write_rows.Given as goal

abbrev pub invariant-loop-row : goal.invariant-loop-row
invariant-loop-row g l =
    Appends (g.W.Write.contents l.initial.output) (g.W.Write.contents l.output) (rows_text (take l.row-index l.rows))
