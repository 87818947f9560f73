use Rattle.std.proofs.Common.{◌≤◌, ◌∙◌, ap, length, subst, sym}
use Rattle.cbs_account.specs.declared.limits.TheConstants.{MOST_STREAMS}
use Rattle.serve_core.specs.Schedule.{ScheduleValue}
use Rattle.serve_hub.specs.Books.{not_over}
use Rattle.serve_hub.proofs.Histories.{few_here, reached_now}
use Rattle.serve_hub.proofs.hub_load.HubLoad.of.Goals as goal

pub count_not_over-requires : goal.count_not_over-requires
count_not_over-requires g c = record {
  few_streams =
      let few = few_here _ (reached_now _ c.shared.inside.book _ c.journal-recalled.ensures.book c.shared.invariant.4) in
      subst (λ (x : ScheduleValue). length x.streams ≤ MOST_STREAMS) (sym c.desk.ensures.desk) few.0;
}

pub invariant_of-result : goal.invariant_of-result
invariant_of-result g c = record {
  book = c.shared.inside.book;
  is_book = c.journal-recalled.ensures.book;
  opened = c.shared.invariant.4.same;
  streams = ap not_over (sym c.desk.ensures.desk) ∙ sym c.count_not_over.ensures;
  workers = sym c.workers.ensures;
}
