use Rattle.std.proofs.Common.{List, ℕ, arith, subst}
use Rattle.std.proofs.KnownBytes.{Appends-trans}
use Rattle.std.specs.Io.KnownBytes.{Appends}
use Rattle.serve_report.proofs.Backlogs.{part_more}
use Rattle.serve_report.proofs.control.backlog.write_lines.Goals as goal

pub loop-from-preserved : goal.loop-from-preserved
loop-from-preserved g c =
    let contents = g.W.Write.contents in
    record {
      within = c.line_end-end.ensures.within;
      written =
          subst (λ (lines : List ℕ). Appends (contents c.args.output.now) (contents c.write_all.new.self) lines)
          (part_more c.args.text.now c.loop-from.from c.line_end-end.result (omega (arith, c.line_end-end.ensures.more)))
          (Appends-trans _ _ _ _ _ c.loop-from.invariant.written c.in_ok-write_all.ensures.bytes);
    }
