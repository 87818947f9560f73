use Rattle.std.proofs.Common.{◌≡◌, map, string_bytes, take}
use Rattle.serve_watch.proofs.row.progress_of.Given as goal

-- the streams so far have the names of the rows so far
abbrev pub invariant-loop-row : goal.invariant-loop-row
invariant-loop-row l =
    map (λ stream. stream.name.now) l.streams.items
    ≡ map (λ row. string_bytes row.name) (take l.row-index l.rows)
