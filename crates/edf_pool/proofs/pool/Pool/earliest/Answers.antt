use Rattle.std.proofs.Common.{ℕ, ◌≡◌, Option, Some, None, IfNone, MatchOption}
use Rattle.std.specs.Prelude.{is_some}
use Rattle.edf_pool.specs.declared.node.Ready.{Ready}
use Rattle.edf_pool.specs.Earliest.{NoneReady}
use Rattle.edf_pool.specs.Tree.{node_at}
use Rattle.edf_pool.proofs.pool.Pool.earliest.Goals as goal

-- what is mapped is none where the node is
none_mapped : (mapped : Option ℕ) (top : Option Ready) (P : Type 0) (Q : Ready → Type 0) → is_some mapped ≡ is_some top
    → MatchOption top P Q → IfNone mapped P
none_mapped None None P Q e is = is
none_mapped None (Some ready) P Q e is = absurd (cc)
none_mapped (Some s) top P Q e is = tt

pub returns-clause-none : goal.returns-clause-none
returns-clause-none c =
    let root = rw c.self.view_is at c.self.invariant.root in
    none_mapped c.map.result (node_at c.self.inside.nodes.value 1) (NoneReady c.args.self.now) _
    (rw c.deref.ensures at c.map.ensures.variant) root
