use Rattle.std.proofs.Common.{refl}
use Rattle.serve_work_tests.proofs.tests.sessions.setup_of.Goals as goal

pub returns : goal.returns
returns g c =
    (c.stream_of-stream.result, rw (c.setup_over.ensures, c.one_of.ensures) refl, c.stream_of-stream.ensures)
