use Rattle.std.proofs.Common.{◌≡◌, ◌≤◌, ℕ, length, false, arith, rules}
use Rattle.std.specs.Prelude.{◌==◌}
use Rattle.filters.proofs.chain.check_chain.Goals as goal

not_none : (count : ℕ) → false ≡ (count == 0) → 1 ≤ count
not_none count is = search rules

-- there is an operation
some_op : (c : goal.Else-totals-gt-MOST_COST) → 1 ≤ length c.args.ops.now
some_op c = not_none (length c.args.ops.now) c.if-is_empty.ensures

pub returns-clause-is_chain : goal.returns-clause-is_chain
returns-clause-is_chain c = record {
  radii = search rules;
  count = record { some = some_op c; few = omega arith };
  doable = search rules;
  cheap = search rules;
}

pub returns-clause-some_steps : goal.returns-clause-some_steps
returns-clause-some_steps c =
    let steps = rw c.in_ok-totals.ensures.ok_part at c.totals_of.ensures.step_per_op in
    omega (arith, steps, some_op c)
