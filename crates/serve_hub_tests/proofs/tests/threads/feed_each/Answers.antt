use Rattle.serve_hub.proofs.Sharing.{references_sync}
use Rattle.serve_hub_tests.proofs.tests.threads.feed_each.Goals as goal

pub for_each_mut-requires-sync-F : goal.for_each_mut-requires-sync-F
for_each_mut-requires-sync-F g c κs within =
    let bounds = c.type_bounds in
    record { shared = (references_sync _ _ g.L.Epoch g.L.Ledger _ _ bounds.send-L bounds.sync-L bounds.sync-R).shared }
