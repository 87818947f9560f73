use Rattle.serve_work.proofs.SessionTurns.{all_oks}
use Rattle.serve_work.proofs.session.serve_untold.Goals as goal

pub returns-clause-session : goal.returns-clause-session
returns-clause-session g c =
    all_oks _ _ c.serve_session_told.result (λ served told. (told.0, told.2)) c.serve_session_told.ensures.session
