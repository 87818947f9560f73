use Rattle.std.proofs.Common.{◌≡◌, ◌++◌, map, take, drop}
use Rattle.filters.proofs.mapping.map_in_place.Given as goal

abbrev pub invariant-loop-i : goal.invariant-loop-i
invariant-loop-i g l = l.samples ≡ map (g.M.Mapping.entry l.mapping) (take l.i l.fn.samples) ++ drop l.i l.fn.samples
