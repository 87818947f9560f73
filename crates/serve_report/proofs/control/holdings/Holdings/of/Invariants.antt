use Rattle.std.proofs.Common.{ℕ, ◌≡◌, ◌<◌, Some, length, slice_get}
use Rattle.cbs_account.specs.declared.limits.TheConstants.{MOST_STREAMS}
use Rattle.serve_report.specs.Holdings.{noted_at}
use Rattle.serve_report.proofs.control.holdings.Holdings.of.Given as goal

abbrev pub invariant-loop-number : goal.invariant-loop-number
invariant-loop-number l = record {
  places : length l.noted ≡ MOST_STREAMS;
  noted : (number : ℕ) → number < l.number → slice_get l.noted number
      ≡ Some (noted_at (slice_get l.tickets number) (slice_get l.ended.book.desk.streams number));
}
