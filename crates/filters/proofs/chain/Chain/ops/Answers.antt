use Rattle.std.proofs.Common.{ap, ◌∙◌}
use Rattle.filters.proofs.chain.Chain.ops.Goals as goal

pub returns-clause-value : goal.returns-clause-value
returns-clause-value c = c.deref.ensures.value ∙ ap (λ chain. chain.ops) c.self.view_is

pub returns-clause-count : goal.returns-clause-count
returns-clause-count c = rw c.deref.ensures.value c.self.invariant.count
