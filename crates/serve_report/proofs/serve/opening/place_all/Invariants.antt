use Rattle.std.proofs.Common.{◌≡◌, ◌++◌, map}
use Rattle.std.specs.Vec.Iter.{into_iter_items}
use Rattle.serve_report.proofs.serve.opening.place_all.Given as goal

-- those that have places, and then those that are left, are all
abbrev pub invariant-loop-asked : goal.invariant-loop-asked
invariant-loop-asked l =
    map (λ placed. placed.asked) l.placed.items ++ into_iter_items l.asked-iterator ≡ l.fn.streams.items
