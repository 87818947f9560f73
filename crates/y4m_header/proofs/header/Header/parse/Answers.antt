use Rattle.std.proofs.Common.{ap, rules, Err}
use Rattle.std.proofs.lemmas.Result.{err_from_is_err_and}
use Rattle.y4m_header.proofs.Refusals.{one_refusal, header_refusal}
use Rattle.y4m_header.proofs.header.Header.parse.Goals as goal

pub returns-in_err-format-clause-accepted : goal.returns-in_err-format-clause-accepted
returns-in_err-format-clause-accepted c w h chroma header =
    let p = err_from_is_err_and c.from_residual.result c.from_residual.ensures.1 in
    rw (p.1, p.2) (header_refusal _ w h chroma _ header (c.in_err-format.ensures.refused))

pub returns-in_err-format-clause-each : goal.returns-in_err-format-clause-each
returns-in_err-format-clause-each c error other refused =
    let p = err_from_is_err_and c.from_residual.result c.from_residual.ensures.1 in
    rw (p.1, p.2) (ap Err (one_refusal _ _ error c.in_err-format.ensures.refused refused))

pub returns-in_err-to_vec-clause-each : goal.returns-in_err-to_vec-clause-each
returns-in_err-to_vec-clause-each c error other refused =
    absurd (other (header_refusal _ _ _ _ error c.in_ok-format.ensures.stated refused))

pub returns-clause-each : goal.returns-clause-each
returns-clause-each c error other refused =
    absurd (other (header_refusal _ _ _ _ error c.in_ok-format.ensures.stated refused))

pub invariant_of-result : goal.invariant_of-result
invariant_of-result c = ∣ rw (c.in_ok-to_vec.ensures.items_if_clones_equal (λ _ _ e. e)) c.in_ok-format.ensures.stated ∣₁

pub returns-clause-stated : goal.returns-clause-stated
returns-clause-stated c = search rules
