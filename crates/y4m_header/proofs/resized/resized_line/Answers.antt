use Rattle.std.proofs.Common.{sym}
use Rattle.y4m_header.proofs.Joined.{join-cons}
use Rattle.y4m_header.proofs.resized.resized_line.Goals as goal

pub loop-rest-init : goal.loop-rest-init
loop-rest-init c = rw (c.in_ok-out.ensures.items, c.cut.ensures.parts) (sym (join-cons _ _))
