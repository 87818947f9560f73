use Rattle.std.proofs.Common.{arith, ap, length, length-append, sym, ◌∙◌}
use Rattle.serve_files.proofs.ahead.Ahead.look.Goals as goal

pub returns-in-Ok-clause-news : goal.returns-in-Ok-clause-news
returns-in-Ok-clause-news g c = λ none.
    let filled = c.in-Ok.ensures.bytes in
    omega (arith, filled.3, c.in-Ok.field-0-test, ap length (sym filled.2 ∙ none.0), length-append c.widen.new.self.held filled.0)
