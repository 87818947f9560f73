use Rattle.std.proofs.Common.{◌<◌, length, sym, ap, arith}
use Rattle.edf_pool.proofs.Leaves.{deadlines-grown, length-deadlines}
use Rattle.edf_pool.proofs.Roots.{tree_grown}
use Rattle.edf_pool.proofs.pool.Pool.grow.Goals as goal

pub invariant_of-self : goal.invariant_of-self
invariant_of-self c =
    let kept = c.self.invariant in
    let long = length-deadlines c.self.inside.streams c.self.inside.nodes.value kept.size kept.most in
    let room : c.self.inside.streams < 64 = omega (arith, ap length c.self.view_is, long, c.requires) in
    tree_grown c.self.inside.streams c.self.inside.nodes.value room kept

pub returns : goal.returns
returns c =
    let kept = c.self.invariant in
    let long = length-deadlines c.self.inside.streams c.self.inside.nodes.value kept.size kept.most in
    let room : c.self.inside.streams < 64 = omega (arith, ap length c.self.view_is, long, c.requires) in
    rw (sym c.self.view_is)
    (deadlines-grown c.self.inside.streams c.self.inside.nodes.value kept.size room kept.leaves)
