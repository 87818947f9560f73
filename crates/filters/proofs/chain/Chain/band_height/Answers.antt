use Rattle.std.proofs.Common.{ap}
use Rattle.filters.proofs.chain.Chain.band_height.Goals as goal

pub returns : goal.returns
returns c = ap (λ chain. chain.band_height) c.self.view_is
