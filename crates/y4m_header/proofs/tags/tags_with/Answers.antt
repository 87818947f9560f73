use Rattle.std.proofs.Common.{ap, rules, ◌∙◌}
use Rattle.y4m_header.proofs.TagLists.{first_is, repeated_is}
use Rattle.y4m_header.proofs.tags.tags_with.Goals as goal

pub returns-clause-first : goal.returns-clause-first
returns-clause-first c =
    let whole = rw c.in_default.is at c.loop-rest.invariant in
    ap (λ f. f.first) whole ∙ first_is _

pub returns-clause-repeated : goal.returns-clause-repeated
returns-clause-repeated c =
    let whole = rw c.in_default.is at c.loop-rest.invariant in
    rw (ap (λ f. f.repeated) whole) (repeated_is _)

pub loop-rest-preserved-in-Some-first : goal.loop-rest-preserved-in-Some-first
loop-rest-preserved-in-Some-first c = search rules
