use denote.Param.Send.{sendable}
use Rattle.std.proofs.Crossing.{crosses}
use Rattle.serve_hub.proofs.Sharing.{hub_sync, owner_sync}
use Rattle.serve_work.proofs.Slots.{slot_sync}
use Rattle.serve_work.proofs.live.threads.fn.run_threads.scope.Goals as goal

pub spawn-requires-send-F : goal.spawn-requires-send-F
spawn-requires-send-F g c κs within =
    search (sendable, crosses, hub_sync, slot_sync, c.requires) depth 20

pub spawn-requires-2-send-F : goal.spawn-requires-2-send-F
spawn-requires-2-send-F g c κs within =
    search (sendable, crosses, owner_sync, c.requires) depth 20
