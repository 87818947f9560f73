use Rattle.std.proofs.Common.{arith, sym, subst, ℕ, ◌+◌, ◌∙◌, take}
use Rattle.std.proofs.lemmas.List.{length-take}
use Rattle.y4m_stream.specs.Wanted.{IsLeast}
use Rattle.y4m_stream.proofs.Awaited.{line_found, none_found, other_found}
use Rattle.y4m_stream.proofs.LineFeeds.{begins_with_line, no_feed}
use Rattle.y4m_stream.proofs.wanted.Wanted.least.Goals as goal

pub returns-in_default-clause-line : goal.returns-in_default-clause-line
returns-in_default-clause-line c = λ some.
    let line = take c.min.result c.args.front.now in
    let len = length-take c.min.result c.args.front.now in
    let least = c.least_of.ensures in
    none_found c.args.self.line c.args.self.behind c.least_of.result c.min.result c.args.front.now
    (omega (arith, c.min.ensures)) (λ h. omega (arith, c.min.ensures, h)) (omega (arith, c.min.ensures))
    (no_feed line (sym c.place_of.ensures ∙ c.in_default.is))
    (λ h. least.long (omega (arith, len, c.min.ensures, h)))
    (λ h. omega (arith, least.more (omega (arith, len, c.min.ensures, h)), len, c.min.ensures))
    (λ m h p q. least.least m (omega (arith, len, c.min.ensures, h)) (omega (arith, len, c.min.ensures, p)) q)

pub returns-then-goes_on-clause-line : goal.returns-then-goes_on-clause-line
returns-then-goes_on-clause-line c = λ some.
    let line = take c.min.result c.args.front.now in
    let few = length-take c.min.result c.args.front.now in
    let place = sym c.place_of.ensures ∙ c.in-Some.is in
    line_found c.args.self.line c.args.self.behind c.in-Some.end c.min.result c.args.front.now (omega (arith, c.min.ensures))
    (begins_with_line line c.in-Some.end (omega (arith, few, c.min.ensures, c.args.self.short)) place)
    (c.goes_on.ensures.yes c.if-goes_on.true)

pub returns-clause-line : goal.returns-clause-line
returns-clause-line c = λ some.
    let line = take c.min.result c.args.front.now in
    let few = length-take c.min.result c.args.front.now in
    let place = sym c.place_of.ensures ∙ c.in-Some.is in
    let other = c.goes_on.ensures.no c.if-goes_on.false in
    subst (λ (j : ℕ). IsLeast j c.args.self.behind c.args.front.now (c.in-Some.end + 1)) (sym other.0)
    (other_found c.args.self.behind c.in-Some.end c.min.result c.args.front.now
    (begins_with_line line c.in-Some.end (omega (arith, few, c.min.ensures, c.args.self.short)) place) other.1)
