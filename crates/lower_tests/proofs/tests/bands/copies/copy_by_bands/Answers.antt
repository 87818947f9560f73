use Rattle.std.proofs.Common.{rules}
use Rattle.lower_tests.proofs.tests.bands.copies.copy_by_bands.Goals.{then-from-to, else-from-to}
use Rattle.lower_tests.proofs.tests.bands.copies.copy_by_bands.Goals as goal

pub loop-k-preserved : goal.loop-k-preserved
loop-k-preserved g c = elim c.if-from-to.branch [
  | then-from-to w ↦ search rules
  | else-from-to w ↦ search rules
]
