use Rattle.std.proofs.Common.{◌∙◌, sym, ap, subst}
use Rattle.serve_core.specs.Schedule.{ScheduleValue}
use Rattle.serve_hub.specs.declared.entry.Act.TheVariants.{Closed}
use Rattle.serve_hub.specs.Books.{BookValue}
use Rattle.serve_hub.specs.Ends.{IsOpening}
use Rattle.serve_hub.proofs.Specs.{same_count}
use Rattle.serve_hub.proofs.stream_seat.StreamSeat.close.Goals.{in-Err, in-Ok}
use Rattle.serve_hub.proofs.stream_seat.StreamSeat.close.Goals as goal

pub invariant_of-shared : goal.invariant_of-shared
invariant_of-shared g c =
    let was = c.shared.inside in
    let is = c.shared.invariant in
    elim c.match-close.branch [
      | in-Err w ↦ rw (w.shared-inside-is, w.in-Err.ensures.refused.1) is
      | in-Ok w ↦ (
          let same = sym w.in-Ok.ensures.entry.book in
          rw w.shared-inside-is (
            w.count.ensures.total,
            is.1 ∙ ap (λ (b : BookValue). b.limit) same,
            is.2,
            is.3,
            subst (λ (x : ScheduleValue). IsOpening g.L.Epoch.opening x was.workers)
                (ap (λ (b : BookValue). b.opening) same) is.4,
            is.5,
            is.6,
            is.7,
            is.8,
            is.9 ∙ sym (same_count _ Closed was.book _ w.in-Ok.ensures.entry tt),
          ))
    ]
