use Rattle.y4m_header.proofs.Refusals.{one_format}
use Rattle.y4m_header.proofs.laws.one_format.Goals as goal

pub returns : goal.returns
returns c line w h chroma w' h' chroma' a b =
    let same = one_format line w h chroma w' h' chroma' a b in
    (same.width, same.height, same.form)
