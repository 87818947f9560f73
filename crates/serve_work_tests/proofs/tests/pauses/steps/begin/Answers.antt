use Rattle.std.proofs.Common.{subst}
use Rattle.y4m_stream.specs.Reader.{IsOfHeader}
use Rattle.serve_work_tests.proofs.tests.pauses.steps.begin.Goals as goal

pub first_epoch-requires-clause-streams : goal.first_epoch-requires-clause-streams
first_epoch-requires-clause-streams g c =
    let two = c.pair_of-setup.ensures in
    (two.0, two.1, two.2, subst (λ h. IsOfHeader h two.0.chain.geometry) c.header.ensures two.3)
