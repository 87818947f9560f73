use Rattle.y4m_header.proofs.TagLists.{keeps_next, keeps_bad}
use Rattle.y4m_header.proofs.tags.all_sizes.Goals as goal

pub returns-then-not-is_size : goal.returns-then-not-is_size
returns-then-not-is_size c =
    let read = c.cut-in-Some.ensures.parts in
    let keeps = rw (c.in-Some.is, read, ← c.in-Some-tag_value.ensures) at c.loop-rest.invariant in
    keeps_bad _ _ _ keeps (λ size. absurd (let t = c.is_size.ensures.1 size in cc))

pub loop-rest-preserved-else-not-is_size : goal.loop-rest-preserved-else-not-is_size
loop-rest-preserved-else-not-is_size c =
    let read = c.cut-in-Some.ensures.parts in
    let keeps = rw (c.in-Some.is, read, ← c.in-Some-tag_value.ensures) at c.loop-rest.invariant in
    keeps_next _ _ _ keeps (c.is_size.ensures.0 c.if-not-is_size.false)
