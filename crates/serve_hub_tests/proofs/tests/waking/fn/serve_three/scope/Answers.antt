use denote.Param.Send.{sendable}
use Rattle.std.proofs.Crossing.{crosses}
use Rattle.serve_hub.proofs.Sharing.{hub_sync, work_seat_send}
use Rattle.serve_hub_tests.proofs.tests.waking.fn.serve_three.scope.Goals as goal

pub spawn-requires-send-F : goal.spawn-requires-send-F
spawn-requires-send-F g c κs within = search (sendable, crosses, hub_sync, work_seat_send, c.requires) depth 20
