use Rattle.std.proofs.Common.{◌∙◌, ap, map}
use Rattle.serve_hub.specs.Seats.{left_by, seat_over}
use Rattle.serve_work_tests.proofs.Going.{can_go_on}
use Rattle.serve_work_tests.proofs.tests.pauses.steps.next_epoch.Goals as goal

pub epoch-requires : goal.epoch-requires
epoch-requires g c =
    let at = c.paused.invariant in
    let seats = c.reopened-next.ensures ∙ ap (map (seat_over 16)) at.2 in
    let same = c.both-seat.ensures (seat_over 16 (left_by at.0)) (seat_over 16 (left_by at.1)) seats in
    let can = can_go_on 16 at.0 c.both-seat.result.0 c.paused.inside.rest same.0 at.3 at.4 in
    record { header = can.header; rest = can.rest_of }
