use Rattle.std.proofs.Common.{◌≡◌, map, string_bytes, take}
use Rattle.serve_watch.proofs.row.rows_of.Given as goal

-- the rows so far have the names so far
abbrev pub invariant-loop-name : goal.invariant-loop-name
invariant-loop-name l =
    map (λ row. string_bytes row.name) l.rows.items ≡ map (λ name. name.now) (take l.name-index l.names)
