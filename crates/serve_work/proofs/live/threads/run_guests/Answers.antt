use denote.Param.Send.{sendable}
use Rattle.std.proofs.Crossing.{crosses, sync}
use Rattle.serve_hub.proofs.Sharing.{hub_sync, owner_sync}
use Rattle.std.proofs.Common.{sym}
use Rattle.serve_work.proofs.SessionTurns.{all_run}
use Rattle.serve_work.proofs.live.threads.run_guests.Goals as goal

pub for_each_mut-requires-sync-F : goal.for_each_mut-requires-sync-F
for_each_mut-requires-sync-F g c κs within =
    search (sendable, crosses, sync, hub_sync, owner_sync, c.requires) depth 20

pub returns : goal.returns
returns g c = all_run (g.K.Clock.gives c.args.post.clock.now) c.args.turns.now c.for_each_mut.new.s c.for_each_mut.auto.s (λ i d less.
    let at = (c.for_each_mut.ensures i d less).1 in rw (sym at.argument_is, sym at.left) at.call)
