use Rattle.y4m_header.proofs.Refusals.{good_sizes, has_sizes}
use Rattle.y4m_header.proofs.format.read_tags.Goals as goal

pub returns-in_default-clause-refused : goal.returns-in_default-clause-refused
returns-in_default-clause-refused c =
    let line = c.args.line.now in
    let stated = c.in_ok-width.ensures.stated in
    let good = good_sizes line c.in_ok-width.width c.in_ok-width.height stated.2 stated.3 in
    let some = has_sizes line c.in_ok-width.width c.in_ok-width.height stated.2 stated.3 in
    let names = rw c.tags_with.ensures.first at c.of_tag.ensures in
    (stated.0, good, stated.1, some, λ chroma named. c.in_default.not-Some chroma ((names chroma).1 named))

pub returns-clause-stated : goal.returns-clause-stated
returns-clause-stated c =
    let stated = c.in_ok-width.ensures.stated in
    let names = rw c.tags_with.ensures.first at c.of_tag.ensures in
    record {
      is_y4m = stated.0;
      width = stated.2;
      height = stated.3;
      form = record {
        one = stated.1.one_chroma;
        named = (names c.in-Some.chroma).0 c.in-Some.is;
      };
    }
