use Rattle.std.proofs.Common.{◌≤◌, ap, arith, length, ◌-◌, ◌∙◌}
use Rattle.serve_files.specs.ReadAhead.{StockState}
use Rattle.serve_files.proofs.TakenAhead.{widened}
use Rattle.serve_files.proofs.stock.Stock.widen.Goals as goal

pub returns-clause-held : goal.returns-clause-held
returns-clause-held c =
    let inside = c.self.inside in
    let room : inside.to - inside.from ≤ c.in-Ok.bytes.len = grind (arith, c.in-Ok.ensures.len, c.in-Ok.ensures.items) in
    let same : inside.to - inside.from ≤ length c.copy_to_front.new.bytes =
    grind (arith, c.copy_to_front.auto.bytes, c.deref_mut.ensures.value, c.deref_mut.ensures.len, c.in-Ok.ensures.len) in
    widened inside.bytes.items c.copy_to_front.new.bytes _ inside.from inside.to c.in-Ok.bytes.len (omega arith) (omega arith) room same
    (rw c.deref.ensures.value at c.copy_to_front.ensures)
    ∙ ap (λ (s : StockState). s.held) c.self.view_is
