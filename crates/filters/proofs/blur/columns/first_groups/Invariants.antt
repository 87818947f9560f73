use Rattle.std.proofs.Common.{◌*◌}
use Rattle.filters.specs.BlurInside.{AreSumsTo}
use Rattle.filters.proofs.blur.columns.first_groups.Given as goal

abbrev pub invariant-loop-g : goal.invariant-loop-g
invariant-loop-g l = AreSumsTo l.plane l.y (4 * l.g) l.columns
