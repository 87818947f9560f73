use Rattle.std.proofs.Common.{arith}
use Rattle.filters.proofs.chain.Chain.new.Goals as goal

pub invariant_of-result : goal.invariant_of-result
invariant_of-result c =
    let checked = c.in_ok-totals.ensures in
    let is_chain = rw c.deref.ensures.value at checked.is_chain in
    record {
      is_chain = ∣ is_chain ∣₁;
      count = is_chain.count;
      outputs = rw c.deref-2.ensures.value at c.in_ok-outputs.ensures;
      steps = rw c.deref.ensures.value at checked.steps;
      cost = rw c.deref.ensures.value at checked.cost;
      some_steps = checked.some_steps;
      cheap = omega (arith, is_chain.cheap, checked.cost);
    }
