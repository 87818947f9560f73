use Rattle.std.proofs.Common.{ℕ, ◌≡◌, ◌∙◌, Option, Some, ap, subst, sym}
use Rattle.std.specs.Prelude.{slice_get}
use Rattle.std.specs.Option.{option_map}
use Rattle.serve_core.specs.Schedule.{HasStream}
use Rattle.serve_hub.specs.Seats.{StreamRest}
use Rattle.serve_client.specs.Clients.{ClientOutcome}
use Rattle.serve_client.specs.Streams.{ServedValue, stream_stop}
use Rattle.serve_client.proofs.Allowing.{kept_allowed}
use Rattle.serve_work.specs.Live.{IsNotCut, IsServedSince}
use Rattle.serve_work.proofs.Answering.{answered}
use Rattle.serve_work.proofs.SessionCharges.{charge_told}
use Rattle.serve_work.proofs.live.guests.tell.Goals as goal

pub tell-requires : goal.tell-requires
tell-requires g c =
    let can = c.requires.can in
    let told = can.7 in
    let desk = c.args.ended.now.book.desk in
    let number : StreamRest → ℕ = λ rest. rest.number in
    let is : Some c.in-Some.number ≡ Some told.seat.number =
    sym c.in-Some.is ∙ c.number.ensures ∙ ap (λ (o : Option StreamRest). option_map number o) told.here in
    let same : c.in-Some.number ≡ told.seat.number = cc in
    let counts = c.in-Some-counts.counts in
    let charged = subst (λ (n : ℕ). HasStream desk n (λ kept. counts.charged ≡ kept.state.charged)) same
    (charge_told (slice_get desk.streams c.in-Some.number) counts (sym c.in-Some-counts.is ∙ c.counts.ensures)) in
    let over = c.into_served-served in
    record {
      answer = (
        can.1,
        can.2,
        can.3,
        can.4,
        can.5,
        sym told.ticket,
        subst (λ (o : ClientOutcome). let s : ServedValue = record { outcome = o; charged = counts.charged } in
            (since : IsServedSince g.D.Chronicle.terms g.D.Chronicle.times can.1 can.3 s)
            × IsNotCut g.D.Chronicle.terms g.D.Chronicle.times can.1 can.3 s since)
            (sym (ap (λ (s : ServedValue). s.outcome) c.served.view_is))
            (answered _ _ can.0 can.1 _ can.3 _ _ (record { outcome = over.result.outcome; charged = counts.charged }) told.history
            told.stood over.ensures.ends over.ensures.own told.charges told.kept charged
            (kept_allowed g.D.Chronicle.times (stream_stop c.args.guest.stream) (Some over.result.outcome.stop) over.ensures.stop
            told.stood.stop) can.6),
      );
    }
