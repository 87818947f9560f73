use Rattle.std.proofs.Common.{◌∙◌, ap, refl, subst, sym}
use Rattle.y4m_stream.specs.Reader.{IsOfHeader}
use Rattle.serve_hub.specs.Seats.{StreamSeatValue, opened_rest, opened_streams, seat_over}
use Rattle.serve_client.specs.Clients.{IsNewSeat}
use Rattle.serve_work_tests.proofs.Going.{can_begin}
use Rattle.serve_work_tests.proofs.tests.pauses.steps.first_epoch.Goals as goal

pub epoch-requires : goal.epoch-requires
epoch-requires g c =
    let two = c.requires.streams in
    let first : StreamSeatValue = seat_over 16 (opened_rest 0 two.0) in
    let same = (c.both-seat.ensures first (seat_over 16 (opened_rest 1 two.1))
    (c.hub_of-hub.ensures ∙ ap (opened_streams 16 0) two.2)).0 in
    let fresh : IsNewSeat first = record { calls = refl; accepted = refl; kept = refl; is_open = refl } in
    let header = subst (λ (s : StreamSeatValue). IsOfHeader c.args.reader.header s.chain.geometry) (sym same) two.3 in
    let is_new = subst IsNewSeat (sym same) fresh in
    let can = can_begin c.both-seat.result.0 _ c.args.reader _ _ c.new-rest.ensures header is_new c.requires.open in
    record { header = can.header; rest = can.rest_of }
