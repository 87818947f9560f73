use Rattle.std.proofs.Common.{arith, refl, length-drop}
use Rattle.std.proofs.lemmas.List.{take_rest}
use Rattle.y4m_stream.proofs.PutsOn.{all_put, more_put}
use Rattle.y4m_stream.proofs.put.put_on.Goals as goal

pub returns-in-Ok-clause-text : goal.returns-in-Ok-clause-text
returns-in-Ok-clause-text g c = record {
  later = c.requires;
  far = refl;
  front = λ before p. all_put before _ _ c.args.bytes.now c.args.from (rw take_rest at c.in-Ok.ensures.text) p;
}

pub returns-in-Err-clause-text : goal.returns-in-Err-clause-text
returns-in-Err-clause-text g c =
    let put = c.in-Err.ensures.text in
    record {
      later = omega arith;
      far = omega (arith, put.0, length-drop c.args.from c.args.bytes.now);
      front = λ before p. more_put before _ _ c.args.bytes.now c.args.from c.in-Err.n (rw take_rest at put.1) p;
    }
