use Rattle.std.proofs.Common.{ℕ, ◌≤◌, ◌∙◌, Some, ap, refl, sym, subst, length}
use Rattle.serve_core.specs.Schedule.{ScheduleValue}
use Rattle.serve_hub.specs.Books.{BookValue, IsBook}
use Rattle.serve_hub.specs.Ends.{IsHistory}
use Rattle.serve_hub.specs.Seats.{HubValue}
use Rattle.serve_hub.proofs.Agreeing.{agree_at, fault_at}
use Rattle.serve_hub.proofs.Histories.{charged_between, history}
use Rattle.serve_hub.proofs.Opened.{same_workers}
use Rattle.serve_hub.proofs.hub.Hub.finish.Goals as goal

pub into_ended-requires-clause-agree : goal.into_ended-requires-clause-agree
into_ended-requires-clause-agree g c =
    let agree = rw (c.deref.ensures.value, c.deref-2.ensures.value) at c.in_default.ensures.1 in
    let opened = c.all_streams.ensures.opened in
    let workers = sym agree.desk_workers
    ∙ same_workers _ c.all_streams.ensures.book
    ∙ ap (λ (x : ScheduleValue). length x.workers) opened.same
    ∙ opened.each_worker in
    agree_at _ _ _ _ _ _ _ _ _ _ c.all_streams.ensures.seats workers (sym agree.limit) refl agree

pub returns-clause-end : goal.returns-clause-end
returns-clause-end g c =
    let agree = rw (c.deref.ensures.value, c.deref-2.ensures.value) at c.in_default.ensures.1 in
    let is = c.all_streams.ensures.book in
    let same = sym c.into_ended.ensures.book in
    let count = c.all_streams.ensures.count ∙ ap (λ (x : BookValue). length x.desk.streams) same in
    let workers = ap (λ (h : HubValue). h.workers) c.self.view_is in
    record {
      agree = agree_at _ _ _ _ _ _ _ _ _ _ count workers (ap (λ (h : HubValue). h.limit) c.self.view_is) same agree;
      once = c.into_ended.ensures.counted;
      settled = rw c.deref-2.ensures.value at c.in_default.ensures.0;
      is_book = subst IsBook same is;
      history = subst (λ (x : BookValue). IsHistory g.L.Epoch.opening x) same (history _ _ _ is c.all_streams.ensures.opened);
      all_workers = ap (λ (x : BookValue). length x.desk.workers) c.into_ended.ensures.book ∙ agree.desk_workers ∙ workers;
      charges = charged_between _ (subst IsBook same is);
      left = c.into_ended.ensures.left;
    }

pub returns-in-Some-clause-refused : goal.returns-in-Some-clause-refused
returns-in-Some-clause-refused g c =
    let same = sym c.of.ensures.book in record {
      hub = c.of.ensures.hub ∙ c.self.view_is;
      is_book = subst IsBook same c.all_streams.ensures.book;
      opened = ap (λ (x : BookValue). x.opening) c.of.ensures.book ∙ c.all_streams.ensures.opened.same;
      more = subst (λ (x : BookValue). length g.L.Epoch.opening.streams ≤ length x.desk.streams) same
          (subst (λ (n : ℕ). length g.L.Epoch.opening.streams ≤ n) c.all_streams.ensures.count c.all_streams.ensures.more);
      fits_not = fault_at (Some c.in-Some.fault) _ _ _ _ _ _ _ _ c.args.streams.items c.args.workers.items
          (c.all_streams.ensures.count ∙ ap (λ (x : BookValue). length x.desk.streams) same)
          (ap (λ (h : HubValue). h.workers) c.self.view_is) (ap (λ (h : HubValue). h.limit) c.self.view_is) same
          (rw (c.deref.ensures.value, c.deref-2.ensures.value) at c.in-Some.ensures);
    }
