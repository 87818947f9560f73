use Rattle.std.proofs.Common.{arith}
use Rattle.filters.proofs.ChainSizes.{smaller_data}
use Rattle.filters.proofs.op.facts.crop_geometry.Goals as goal

pub invariant_of-result-clause-small : goal.invariant_of-result-clause-small
invariant_of-result-clause-small c =
    let a = c.args in
    omega (
      arith,
      smaller_data a.geometry.chroma a.crop.width a.geometry.width a.crop.height a.geometry.height
          (omega arith) (omega arith),
    )
