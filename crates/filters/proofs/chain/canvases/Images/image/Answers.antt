use Rattle.std.proofs.Common.{◌≡◌, ◌∙◌, arith, ap, length, rules, sym}
use Rattle.filters.specs.Chain.{format_of}
use Rattle.filters.proofs.Front.{tables_format}
use Rattle.filters.proofs.chain.canvases.Images.image.Goals as goal

pub returns-then-is_empty-clause-size : goal.returns-then-is_empty-clause-size
returns-then-is_empty-clause-size c =
    let chain = c.self.inside.chain in
    let none : length c.self.inside.canvases.items ≡ 0 = search rules in
    let same = rw (← c.self.view_is) at c.requires in
    rw (← c.self.view_is)
    (ap format_of same ∙ sym (tables_format chain (format_of chain.geometry) (omega (arith, c.self.invariant.count, none))))
