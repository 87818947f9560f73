use Rattle.filters.specs.BlurInside.{AreSumsTo}
use Rattle.filters.proofs.blur.columns.first_columns.Given as goal

abbrev pub invariant-loop-i : goal.invariant-loop-i
invariant-loop-i l = AreSumsTo l.plane l.y l.i l.columns
