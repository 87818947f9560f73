use denote.Param.Send.{sendable}
use Rattle.std.proofs.Crossing.{crosses}
use Rattle.serve_hub.proofs.Sharing.{hub_sync, work_seat_send}
use Rattle.serve_hub_tests.proofs.tests.waking.fn.helped.scope.Goals as goal

pub spawn-working-requires-send-F : goal.spawn-working-requires-send-F
spawn-working-requires-send-F g c κs within = search (sendable, crosses, hub_sync, work_seat_send, c.requires) depth 20
