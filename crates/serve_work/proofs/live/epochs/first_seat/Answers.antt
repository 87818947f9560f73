use Rattle.std.proofs.Common.{◌≡◌, ◌∷◌, [], ◌∙◌, ap, arith, refl, subst, sym}
use Rattle.std.specs.Prelude.{All}
use Rattle.serve_core.specs.Setup.{IsWithinLimits}
use Rattle.serve_hub.specs.Seats.{HubValue, StreamSeatValue, opened_rest, opened_streams, seat_over}
use Rattle.serve_work.specs.Intervals.{HasNoCalls}
use Rattle.serve_work.specs.Live.{IsSeatFor}
use Rattle.serve_work.proofs.Living.{opened}
use Rattle.serve_work.proofs.Seating.{popped_one}
use Rattle.serve_work.proofs.live.epochs.first_seat.Goals as goal

pub returns-in-Some-clause-seat : goal.returns-in-Some-clause-seat
returns-in-Some-clause-seat g c = λ spec is.
    let limit = c.args.limit in
    let first : StreamSeatValue = seat_over limit (opened_rest 0 spec) in
    let all : c.in-Ok-new.opened.1.items ≡ first ∷ [] = c.in-Ok-new.ensures.streams ∙ ap (opened_streams limit 0) is in
    let within = subst (All IsWithinLimits) is c.requires.is_setup.0.limits.each 0 spec (omega arith) in
    subst (λ (s : StreamSeatValue). IsSeatFor spec s × HasNoCalls s × (s.number ≡ 0))
    (sym (popped_one _ _ _ _ all c.in-Some.ensures.items)) (opened limit 0 spec within.geometry, (refl, refl), refl)

pub returns-in-Some-clause-limit : goal.returns-in-Some-clause-limit
returns-in-Some-clause-limit g c = ap (λ (hub : HubValue). hub.limit) c.in-Ok-new.ensures.hub
