use Rattle.std.proofs.Common.{[]}
use Rattle.serve_work_tests.proofs.tests.live.serves_by.Goals as goal

pub serve_live-requires-clause-nobody : goal.serve_live-requires-clause-nobody
serve_live-requires-clause-nobody g c κs within = ([], record { epochs_are = tt; timed = tt }, tt)
