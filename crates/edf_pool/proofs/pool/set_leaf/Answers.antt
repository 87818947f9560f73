use Rattle.std.proofs.Common.{◌≡◌, ◌+◌, ◌-◌, ◌/◌, ◌≤◌, ◌^◌, ◌∙◌, arith, length-set}
use Rattle.std.proofs.Math.Nat.{mul-one}
use Rattle.std.proofs.lemmas.List.{drop-set-lt}
use Rattle.edf_pool.proofs.Leaves.{drop-set_leaf}
use Rattle.edf_pool.proofs.Winners.{halved, at_most_six, winners-set_winner}
use Rattle.edf_pool.proofs.pool.set_leaf.Goals as goal

pub loop-i-preserved : goal.loop-i-preserved
loop-i-preserved c =
    let nodes = c.loop-i.nodes in let above = c.loop-i.i / 2 in let before = c.loop-i.invariant in
    let used = c.loop-i.compares.made - c.args.compares.now.made in
    let more : c.lesser.new.self.made - c.args.compares.now.made ≡ used + 1 = omega arith in
    record {
      size = simp length-set before.size;
      some = omega arith;
      within = omega arith;
      since = omega arith;
      few = rw more (halved used c.loop-i.i before.few);
      leaves = drop-set-lt 64 nodes above c.lesser.result (omega arith) ∙ before.leaves;
      winners = rw c.lesser.ensures.lesser (winners-set_winner nodes above (omega arith) (omega arith) before.size before.winners);
    }

pub returns-clause-leaves : goal.returns-clause-leaves
returns-clause-leaves c = c.loop-i.invariant.leaves ∙ drop-set_leaf c.args.nodes.now c.args.leaf c.args.node (omega arith)

pub returns-clause-at_most_six : goal.returns-clause-at_most_six
returns-clause-at_most_six c =
    let one : c.loop-i.i ≡ 1 = omega arith in
    let used : 2 ^ (c.loop-i.compares.made - c.args.compares.now.made) ≤ 127 = rw (one, mul-one) at c.loop-i.invariant.few in
    let six = at_most_six (c.loop-i.compares.made - c.args.compares.now.made) used in
    omega arith
