use Rattle.std.proofs.Common.{◌≡◌, map, take}
use Rattle.filters.proofs.mapping.map_row.Given as goal

abbrev pub invariant-loop-i : goal.invariant-loop-i
invariant-loop-i g l = take l.i l.target ≡ map (g.M.Mapping.entry l.mapping) (take l.i l.source)
