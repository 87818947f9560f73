use Rattle.std.proofs.Common.{◌∙◌, ap, refl, sym, subst}
use Rattle.frame_view.specs.declared.frame.Frame.{Frame}
use Rattle.serve_core.specs.Schedule.{ScheduleValue}
use Rattle.serve_hub.specs.Books.{BookValue}
use Rattle.serve_hub.specs.Calls.{IsOfferTold}
use Rattle.serve_hub.specs.Ends.{IsOpening}
use Rattle.serve_hub.proofs.Refusing.{of_book}
use Rattle.serve_hub.proofs.Specs.{same_count}
use Rattle.serve_hub.proofs.stream_seat.StreamSeat.enter.Goals as goal

pub invariant_of-shared-then-number-next : goal.invariant_of-shared-then-number-next
invariant_of-shared-then-number-next g c =
    let was = c.shared.inside in
    let is = c.shared.invariant in
    let same = sym c.in-Ok.ensures.entry.book in (
      c.count.ensures.total,
      is.1 ∙ ap (λ (b : BookValue). b.limit) same,
      is.2,
      is.3,
      subst (λ (x : ScheduleValue). IsOpening g.L.Epoch.opening x was.workers) (ap (λ (b : BookValue). b.opening) same) is.4,
      is.5,
      is.6,
      is.7,
      is.8,
      is.9 ∙ sym (same_count _ _ was.book _ c.in-Ok.ensures.entry tt),
    )

pub invariant_of-shared-2 : goal.invariant_of-shared-2
invariant_of-shared-2 g c =
    let was = c.shared.inside in
    let is = c.shared.invariant in
    let same = sym c.in-Ok.ensures.entry.book in (
      c.count.ensures.total,
      is.1 ∙ ap (λ (b : BookValue). b.limit) same,
      is.2,
      is.3,
      subst (λ (x : ScheduleValue). IsOpening g.L.Epoch.opening x was.workers) (ap (λ (b : BookValue). b.opening) same) is.4,
      is.5,
      is.6,
      is.7,
      is.8,
      is.9 ∙ sym (same_count _ _ was.book _ c.in-Ok.ensures.entry tt),
    )

pub judge_offer-requires : goal.judge_offer-requires
judge_offer-requires g c =
    record { book = of_book c.shared.inside.book _ c.args.at c.in-Err.refusal c.in-Err.ensures.refused }

pub returns-in-Err-clause-refused : goal.returns-in-Err-clause-refused
returns-in-Err-clause-refused g c = (
  c.in-Err.ensures.returns_job.0,
  refl,
  subst (λ (f : Frame). IsOfferTold c.args.self.now c.args.at f.geometry c.judge_offer.result)
      c.deref.ensures c.judge_offer.ensures.refused,
)
