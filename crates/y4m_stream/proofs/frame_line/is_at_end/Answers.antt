use Rattle.std.proofs.Common.{◌≡◌, Bool, true, Result, Ok, Err, refl, rules}
use Rattle.y4m_stream.specs.declared.fault.ReadFault.{ReadFault}
use Rattle.y4m_stream.proofs.frame_line.is_at_end.Goals as goal

no_answer : (fault : ReadFault) (said : Result Bool ReadFault) → said ≡ Err fault → said ≡ Ok true → ⊥
no_answer fault said is answer = search rules

pub returns-in-Err-clause-ended : goal.returns-in-Err-clause-ended
returns-in-Err-clause-ended g c is = absurd (no_answer _ _ refl is)

pub returns-in-Err-clause-failures : goal.returns-in-Err-clause-failures
returns-in-Err-clause-failures g c = c.in-Err.ensures.failures
