use Rattle.std.proofs.Common.{◌≡◌, ◌++◌, take}
use Rattle.std.specs.List.{flat_map}
use Rattle.serve_script.proofs.session.pieces.push_each.Given as goal

abbrev pub invariant-loop-piece : goal.invariant-loop-piece
invariant-loop-piece l = l.printed.items ≡ l.fn.printed.items ++ flat_map (λ piece. piece.now) (take l.piece-index l.pieces)
