use Rattle.std.proofs.Common.{ap}
use Rattle.filters.proofs.chain.Chain.geometry.Goals as goal

pub returns : goal.returns
returns c = ap (λ chain. chain.geometry) c.self.view_is
