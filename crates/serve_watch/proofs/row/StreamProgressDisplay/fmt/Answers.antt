use Rattle.std.proofs.Common.{append_assoc}
use Rattle.std.proofs.Output.{has_written_of_eq}
use Rattle.serve_watch.proofs.row.StreamProgressDisplay.fmt.Goals as goal

pub returns-else-is_awaited-clause-writes : goal.returns-else-is_awaited-clause-writes
returns-else-is_awaited-clause-writes g c plain ok =
    has_written_of_eq _ _ _ _ _ (simp (c.if-is_awaited.false, append_assoc))
    (c.write-else-is_awaited.ensures.writes plain ok)
