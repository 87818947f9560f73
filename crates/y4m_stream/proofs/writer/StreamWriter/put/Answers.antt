use Rattle.std.proofs.Common.{◌≡◌, true, false, refl, rules}
use Rattle.y4m_stream.proofs.writer.StreamWriter.put.Goals as goal

not_false : true ≡ false → ⊥
not_false is = search rules

pub invariant_of-self-in-Err : goal.invariant_of-self-in-Err
invariant_of-self-in-Err g c = (λ writing. absurd (not_false writing), c.self.invariant.1, c.self.invariant.2)

pub returns-in-Err : goal.returns-in-Err
returns-in-Err g c =
    let put = c.in-Err.ensures in
    record {
      is_open = λ _. record {
        cut = record { n = c.in-Err.n; partly = search rules; front = search rules; counted = search rules };
        counted = refl;
        failed = rw (← c.self.view_is, put.failures) refl;
      };
      has_failed = λ failed. search rules;
    }
