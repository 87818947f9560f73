use Rattle.std.proofs.Common.{◌≡◌, ◌+◌, ◌-◌, ◌<◌, ◌∙◌, length, sym, ap, subst, arith}
use Rattle.edf_pool.proofs.Leaves.{IsTold, length-deadlines, deadlines-told}
use Rattle.edf_pool.proofs.Roots.{tree_told}
use Rattle.edf_pool.proofs.pool.Pool.set_ready.Goals as goal

within : (c : goal.After-self-1) → c.args.s < c.self.inside.streams
within c =
    let long = length-deadlines c.self.inside.streams c.self.inside.nodes.value c.self.invariant.size c.self.invariant.most in
    subst (λ n. c.args.s < n) (sym (ap length c.self.view_is) ∙ long) c.requires

told : (c : goal.After-self-1) → IsTold c.self.inside.nodes.value c.set_leaf.new.nodes c.args.s c.args.deadline
told c =
    let same : 64 + c.args.s - 64 ≡ c.args.s = omega arith in
    record { leaves = rw (same, c.deref_mut.ensures.value, c.node.ensures) at c.set_leaf.ensures.leaves }

pub invariant_of-self : goal.invariant_of-self
invariant_of-self c =
    tree_told c.self.inside.streams c.self.inside.nodes.value c.set_leaf.new.nodes c.args.s c.args.deadline
    (within c) (told c) c.self.invariant c.set_leaf.ensures.winners

pub returns-clause-deadlines : goal.returns-clause-deadlines
returns-clause-deadlines c =
    rw (sym c.self.view_is)
    (deadlines-told c.self.inside.streams c.self.inside.nodes.value c.set_leaf.new.nodes c.args.s c.args.deadline (within c) (told c))
