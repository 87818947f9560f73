use Rattle.std.proofs.Common.{subst}
use Rattle.y4m_stream.specs.Reader.{IsOfHeader}
use Rattle.serve_work_tests.proofs.tests.sessions.served.Goals as goal

pub served_by-requires-clause-stream : goal.served_by-requires-clause-stream
served_by-requires-clause-stream g c κs within =
    let one = c.setup_of-setup.ensures in
    (one.0, one.1, subst (λ h. IsOfHeader h one.0.chain.geometry) c.header.ensures one.2)
