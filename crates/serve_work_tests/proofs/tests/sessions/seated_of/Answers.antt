use Rattle.std.proofs.Common.{◌∙◌, ap, refl, subst, sym}
use Rattle.serve_hub.specs.Seats.{StreamSeatValue, opened_rest, opened_streams, seat_over}
use Rattle.serve_client.specs.Clients.{IsNewSeat}
use Rattle.serve_work_tests.proofs.tests.sessions.seated_of.Goals as goal

pub returns-clause-chain : goal.returns-clause-chain
returns-clause-chain g c stream same =
    let seats = c.hub_of-hub.ensures ∙ ap (opened_streams 1000 0) same in
    ap (λ (s : StreamSeatValue). s.chain) (c.sole.ensures (seat_over 1000 (opened_rest 0 stream)) seats)

pub returns-clause-fresh : goal.returns-clause-fresh
returns-clause-fresh g c =
    let one = c.requires.one in
    let first : StreamSeatValue = seat_over 1000 (opened_rest 0 one.0) in
    let fresh : IsNewSeat first = record { calls = refl; accepted = refl; kept = refl; is_open = refl } in
    subst IsNewSeat (sym (c.sole.ensures first (c.hub_of-hub.ensures ∙ ap (opened_streams 1000 0) one.1))) fresh
