use Rattle.std.proofs.Common.{◌≡◌, take}
use Rattle.serve_report.specs.Holdings.{kept_by}
use Rattle.serve_report.proofs.control.table.Table.kept_at.Given as goal

abbrev pub invariant-loop-entry : goal.invariant-loop-entry
invariant-loop-entry g l =
    l.parts ≡ kept_by (λ entry. entry.share) l.fn.moment (take l.entry-index l.fn.self.entries.items) l.fn.self.holders.all.items
