use Rattle.std.proofs.Common.{arith}
use Rattle.edf_pool.proofs.Leaves.{deadlines-replicate}
use Rattle.edf_pool.proofs.Roots.{nobody, tree_of_nobody}
use Rattle.edf_pool.proofs.pool.Pool.reset.Goals as goal

pub invariant_of-self : goal.invariant_of-self
invariant_of-self c = rw c.clear.ensures (tree_of_nobody c.args.streams (omega arith) (omega arith))

pub returns : goal.returns
returns c = rw c.clear.ensures (deadlines-replicate c.args.streams nobody (omega arith))
