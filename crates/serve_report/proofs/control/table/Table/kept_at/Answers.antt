use Rattle.std.proofs.Common.{ℕ, ap, ◌∙◌}
use Rattle.serve_report.specs.Holdings.{sum_within}
use Rattle.serve_report.proofs.Keeping.{kept_more}
use Rattle.serve_report.proofs.control.table.Table.kept_at.Goals as goal

pub loop-entry-preserved : goal.loop-entry-preserved
loop-entry-preserved g c =
    let entry = c.entry-item.result in
    c.saturating_add-parts.ensures
    ∙ ap (λ (parts : ℕ). sum_within parts entry.share.parts) c.loop-entry.invariant
    ∙ kept_more (λ one. one.share) _ c.args.self.now.holders.all.items c.loop-entry.entry-index entry _ _
    c.deref-entry-items.ensures.value c.loop-entry-test.true c.entry-item.is
