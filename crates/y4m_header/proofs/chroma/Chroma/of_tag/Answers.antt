use Rattle.std.proofs.Common.{refl, None}
use Rattle.y4m_header.proofs.ChromaTable.{names_form}
use Rattle.y4m_header.proofs.chroma.Chroma.of_tag.Goals as goal

pub returns-in-None : goal.returns-in-None
returns-in-None c = rw c.in-None.is (names_form None _ refl)

pub returns-in-Some : goal.returns-in-Some
returns-in-Some c = rw c.in-Some.is c.form_of.ensures
