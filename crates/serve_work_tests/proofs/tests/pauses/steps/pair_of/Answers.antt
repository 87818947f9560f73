use Rattle.std.proofs.Common.{refl}
use Rattle.serve_work_tests.proofs.tests.pauses.steps.pair_of.Goals as goal

pub returns : goal.returns
returns g c = (
  c.stream_of-stream.result,
  c.other_of-other.result,
  rw (c.setup_over.ensures, c.two_of.ensures) refl,
  c.stream_of-stream.ensures,
)
