use Rattle.std.proofs.Common.{arith}
use Rattle.serve_files.proofs.TakenAhead.{taken_off}
use Rattle.serve_files.proofs.ahead.AheadRead.read.Goals as goal

pub returns-then-is_holding-clause-bytes : goal.returns-then-is_holding-clause-bytes
returns-then-is_holding-clause-bytes g c =
    let taken = c.take_into.ensures in
    let some = c.is_holding.ensures.not_empty c.if-is_holding.true in
    rw (taken.left, taken.moved, ← c.self.view_is) (
      taken_off _ c.self.inside.stock.held c.take_into.result,
      λ none room. absurd (omega (arith, some, taken.count, none, room)),
    )
