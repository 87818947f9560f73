use Rattle.std.proofs.Common.{List, ℕ, sym, subst}
use Rattle.std.proofs.KnownBytes.{Appends-trans}
use Rattle.std.specs.Io.KnownBytes.{Appends}
use Rattle.serve_report.specs.ServeReport.{row_text}
use Rattle.serve_script.specs.ScriptReport.{line_text}
use Rattle.serve_watch.proofs.Texts.{text_more}
use Rattle.serve_report.proofs.serve.rows.write_rows.Goals as goal

pub loop-row-preserved : goal.loop-row-preserved
loop-row-preserved g c =
    let contents = g.W.Write.contents in
    subst (λ (text : List ℕ). Appends (contents c.args.output.now) (contents c.write_row.new.output) text)
    (sym (text_more (λ row. line_text (row_text row)) c.args.rows.now c.loop-row.row-index _ c.loop-row-test.true))
    (Appends-trans _ _ _ _ _ c.loop-row.invariant c.in_ok-write_row.ensures)
