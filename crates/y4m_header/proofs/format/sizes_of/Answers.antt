use Rattle.std.proofs.Common.{inl, inr}
use Rattle.y4m_header.proofs.TagLists.{states_first, length_none}
use Rattle.y4m_header.proofs.format.sizes_of.Goals as goal

pub returns-in-Some-Some-clause-stated : goal.returns-in-Some-Some-clause-stated
returns-in-Some-Some-clause-stated c =
    let good = c.requires.good in
    let once = c.requires.once in
    let first_w = rw c.in-Some-Some.is-0 at c.tags_with.ensures.first in
    let first_h = rw c.in-Some-Some.is-1 at c.tags_with-2.ensures.first in
    let width = states_first _ _ _ first_w once.one_width good.widths_good c.stated_size.ensures in
    let stated_h = c.stated_size-in-Some-Some.ensures in
    let height = states_first _ _ _ first_h once.one_height good.heights_good stated_h in
    (width, height)

pub returns-in_default-clause-none : goal.returns-in_default-clause-none
returns-in_default-clause-none c = inr (length_none _ (rw c.in_default.is-1 at c.tags_with-2.ensures.first))

pub returns-in_default-2-clause-none : goal.returns-in_default-2-clause-none
returns-in_default-2-clause-none c = inl (length_none _ (rw c.in_default.is-0 at c.tags_with.ensures.first))
