use Rattle.std.proofs.Common.{[], sym}
use Rattle.serve_report.proofs.control.threads.serve_door.Goals as goal

pub serve_live-requires-clause-nobody : goal.serve_live-requires-clause-nobody
serve_live-requires-clause-nobody g c κs within = ([], record { epochs_are = tt; timed = tt }, sym c.in_ok-door.ensures)
