use Rattle.y4m_stream.proofs.Ahead.{HasPassed-ahead}
use Rattle.y4m_stream.proofs.overlapped.pass_beside.Goals as goal

pub returns-in-Err : goal.returns-in-Err
returns-in-Err g c = HasPassed-ahead _ _ _ _ _ _ c.pass_frames.ensures
