use Rattle.std.proofs.Common.{◌<◌, ℕ, Option}
use Rattle.std.specs.Prelude.{slice_index_or}
use Rattle.serve_report.specs.Holdings.{IsNotUnder}
use Rattle.serve_report.specs.declared.control.answer.Holding.{Holding}
use Rattle.serve_report.proofs.control.holdings.Holdings.under.Given as goal

-- nothing that was looked at is under the ticket
abbrev pub invariant-loop-noted : goal.invariant-loop-noted
invariant-loop-noted l =
    (k : ℕ) (d : Option (ℕ × Holding)) → k < l.noted-index → IsNotUnder l.fn.ticket (slice_index_or l.fn.self.noted k d)
