use Rattle.std.proofs.Common.{◌≢◌, ℕ, ◌+◌, ◌∙◌, arith, drop, inl, inr, refl, sym, subst, take}
use Rattle.std.proofs.lemmas.List.Elements.{All-take}
use Rattle.std.proofs.lemmas.Option.{IfSome_then}
use Rattle.y4m_stream.specs.Wanted.{IsLacking}
use Rattle.y4m_stream.proofs.Awaited.{held_line, lacking_data, none_then}
use Rattle.y4m_stream.proofs.LineFeeds.{begins_with_line, no_feed}
use Rattle.y4m_stream.proofs.frame_line.lacks.Goals as goal

pub returns-then-held-ge-LINE_LIMIT-clause-enough : goal.returns-then-held-ge-LINE_LIMIT-clause-enough
returns-then-held-ge-LINE_LIMIT-clause-enough c =
    let none = no_feed c.args.held.now (sym c.place_of.ensures ∙ c.in_default.is) in
    inr (inl (record {
      long = c.if-held-ge-LINE_LIMIT.true;
      no_feed = All-take (λ byte. byte ≢ 10) 1024 c.args.held.now none;
    }))

pub returns-in_default-clause-lacking : goal.returns-in_default-clause-lacking
returns-in_default-clause-lacking c =
    let none = no_feed c.args.held.now (sym c.place_of.ensures ∙ c.in_default.is) in
    inl (record { short = c.if-held-ge-LINE_LIMIT.false; no_feed = none }, omega (arith, c.line.ensures), c.line.ensures.1)

pub returns-then-is_frame_line-clause-enough : goal.returns-then-is_frame_line-clause-enough
returns-then-is_frame_line-clause-enough c =
    let line = begins_with_line c.args.held.now c.in-Some.end c.requires.0 (sym c.place_of.ensures ∙ c.in-Some.is) in
    none_then c.lacks_data.result c.lacks_data.ensures.enough
    (held_line c.args.len c.in-Some.end c.args.held.now line (c.is_frame_line.ensures.yes c.if-is_frame_line.true))

pub returns-then-is_frame_line-clause-lacking : goal.returns-then-is_frame_line-clause-lacking
returns-then-is_frame_line-clause-lacking c =
    let held = c.args.held.now in
    let line = begins_with_line held c.in-Some.end c.requires.0 (sym c.place_of.ensures ∙ c.in-Some.is) in
    let frame = c.is_frame_line.ensures.yes c.if-is_frame_line.true in
    IfSome_then c.lacks_data.result c.lacks_data.ensures.lacking (λ wanted lacking.
    subst (λ (most : ℕ). IsLacking c.args.len held most wanted.behind) (sym lacking.0)
    (lacking_data c.args.len c.in-Some.end wanted.behind held line frame lacking.1))

pub returns-clause-enough : goal.returns-clause-enough
returns-clause-enough c =
    let line = begins_with_line c.args.held.now c.in-Some.end c.requires.0 (sym c.place_of.ensures ∙ c.in-Some.is) in
    inr (inr (
      refl,
      record {
        line = take c.in-Some.end c.args.held.now;
        more = drop (c.in-Some.end + 1) c.args.held.now;
        is_line = line.is_line;
        is_other = c.is_frame_line.ensures.no c.if-is_frame_line.false;
        whole = line.feed;
      },
    ))
