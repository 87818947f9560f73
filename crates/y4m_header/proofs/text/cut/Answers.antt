use Rattle.std.proofs.Common.{eqb, sym, ◌∙◌}
use Rattle.std.proofs.lemmas.List.{take_rest}
use Rattle.y4m_header.proofs.Cuts.{parts-some, parts-none, take-position, all-position}
use Rattle.y4m_header.proofs.text.cut.Goals as goal

pub returns-in-Some-clause-parts : goal.returns-in-Some-clause-parts
returns-in-Some-clause-parts c =
    rw take_rest (parts-some (λ b. eqb b c.args.separator) _ _ (sym c.place_of.ensures ∙ c.in-Some.is))

pub returns-in-Some-clause-first : goal.returns-in-Some-clause-first
returns-in-Some-clause-first c =
    take-position (λ b. eqb b c.args.separator) _ _ (sym c.place_of.ensures ∙ c.in-Some.is)

pub returns-in-None-clause-parts : goal.returns-in-None-clause-parts
returns-in-None-clause-parts c =
    parts-none (λ b. eqb b c.args.separator) _ (sym c.place_of.ensures ∙ c.in-None.is)

pub returns-in-None-clause-first : goal.returns-in-None-clause-first
returns-in-None-clause-first c =
    all-position (λ b. eqb b c.args.separator) _ (sym c.place_of.ensures ∙ c.in-None.is)
