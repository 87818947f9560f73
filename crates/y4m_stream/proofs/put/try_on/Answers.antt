use Rattle.std.proofs.Common.{arith}
use Rattle.std.proofs.lemmas.List.{take_rest}
use Rattle.y4m_stream.proofs.PutsOn.{more_put}
use Rattle.y4m_stream.proofs.put.try_on.Goals as goal

pub returns-in-Ok-Some-clause-text : goal.returns-in-Ok-Some-clause-text
returns-in-Ok-Some-clause-text g c =
    let tried = rw c.in-Ok-Some.field-0-is at c.in-Ok-Some.ensures.bytes in
    record {
      later = omega arith;
      far = c.way_at.ensures.0;
      front = λ before p. more_put before _ _ c.args.bytes.now c.args.from c.in-Ok-Some.n (rw take_rest at tried.1) p;
    }
