use Rattle.std.proofs.Common.{◌∙◌, ap, slice_get, sym, subst}
use Rattle.serve_core.specs.Schedule.{ScheduleValue}
use Rattle.serve_core.proofs.Items.Options.{some_and}
use Rattle.serve_hub.specs.declared.stream_seat.StreamSeat.TheInside.{Inside}
use Rattle.serve_hub.specs.Books.{BookValue}
use Rattle.serve_hub.specs.Ends.{IsOpening}
use Rattle.serve_hub.specs.Seats.{StreamSeatValue, seat_over}
use Rattle.serve_hub.proofs.Collecting.{collects}
use Rattle.serve_hub.proofs.Specs.{same_count}
use Rattle.serve_hub.proofs.stream_seat.StreamSeat.collect.Goals as goal

pub invariant_of-shared-2 : goal.invariant_of-shared-2
invariant_of-shared-2 g c =
    let was = c.shared.inside in
    let is = c.shared.invariant in
    let entered = some_and (slice_get was.book.desk.streams _) _ c.in-Ok.ensures.entry in
    let same = sym entered.2.book in (
      c.count.ensures.total,
      is.1 ∙ ap (λ (b : BookValue). b.limit) same,
      is.2,
      is.3,
      subst (λ (x : ScheduleValue). IsOpening g.L.Epoch.opening x was.workers) (ap (λ (b : BookValue). b.opening) same) is.4,
      is.5,
      is.6,
      is.7,
      is.8,
      is.9 ∙ sym (same_count _ _ was.book _ entered.2 tt),
    )

pub returns-clause-given : goal.returns-clause-given
returns-clause-given g c =
    let seat : Inside g.row.L.Denot → StreamSeatValue =
    λ x. record (seat_over x.calls.limit x.rest) { calls = x.calls; moments = x.moments } in
    let was = ap seat c.self-inside.view_is ∙ c.self.view_is in
    let its = rw (← c.shared.view_is, ← was) at c.in_default.ensures.chain in
    rw (← was)
    (collects _ c.count.new.self c.shared.inside.book c.collect.new.self c.in-Ok.pair c.in-Ok.ensures.entry
    c.in-Ok.ensures.pair its c.count.ensures.call)
