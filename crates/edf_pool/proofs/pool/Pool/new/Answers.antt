use Rattle.std.proofs.Common.{arith}
use Rattle.edf_pool.proofs.Leaves.{deadlines-replicate}
use Rattle.edf_pool.proofs.Roots.{nobody, tree_of_nobody}
use Rattle.edf_pool.proofs.pool.Pool.new.Goals as goal

pub invariant_of-result : goal.invariant_of-result
invariant_of-result c = rw c.in_ok-nodes.ensures.ok (tree_of_nobody c.args.streams (omega arith) (omega arith))

pub returns : goal.returns
returns c = rw c.in_ok-nodes.ensures.ok (deadlines-replicate c.args.streams nobody (omega arith))
