use denote.Param.Send.{sendable}
use Rattle.std.proofs.Crossing.{crosses}
use Rattle.serve_hub.proofs.Sharing.{hub_sync, work_seat_send}
use Rattle.serve_work_tests.proofs.Going.{can_begin}
use Rattle.serve_work_tests.proofs.tests.sessions.fn.run.scope.Goals as goal

pub spawn-requires-send-F : goal.spawn-requires-send-F
spawn-requires-send-F g c κs within =
    search (sendable, crosses, hub_sync, work_seat_send, c.requires) depth 20

pub client-turn-requires : goal.client-turn-requires
client-turn-requires g c =
    let can = can_begin c.captures.seat _ c.captures.reader _ _ c.new-rest.ensures c.requires.3 c.requires.4 c.requires.5 in
    record { header = can.header; rest = can.rest_of }
