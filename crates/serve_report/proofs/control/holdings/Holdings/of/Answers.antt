use Rattle.std.proofs.Common.{ℕ, ◌∙◌, length-set, slice_get}
use Rattle.serve_report.specs.Holdings.{noted_at}
use Rattle.serve_report.proofs.Noting.{noted_up_to}
use Rattle.serve_report.proofs.control.holdings.Holdings.of.Goals as goal

pub loop-number-preserved : goal.loop-number-preserved
loop-number-preserved c =
    let wanted = λ (k : ℕ). noted_at (slice_get c.args.tickets.now k) (slice_get c.args.ended.now.book.desk.streams k) in
    let before = c.loop-number.invariant in
    record {
      places = length-set _ _ _ ∙ before.places;
      noted = λ number up. rw c.noted_of.ensures
          (noted_up_to wanted c.loop-number.noted c.loop-number.number
          (rw before.places c.loop-number-test.true) before.noted number up);
    }
