use Rattle.std.proofs.Common.{refl}
use Rattle.y4m_header.proofs.ChromaTable.{names_form, other_text, same_text_found, no_text_found}
use Rattle.y4m_header.proofs.chroma.form_of.Goals as goal

pub loop-value-init : goal.loop-value-init
loop-value-init c = refl

pub loop-value-preserved : goal.loop-value-preserved
loop-value-preserved c =
    other_text _ _ c.as_bytes.result.now _ _ c.eq.result _ c.loop-value.invariant c.loop-value-test.true
    c.as_bytes.ensures.value c.eq.ensures c.if-eq.false

pub returns-then-eq : goal.returns-then-eq
returns-then-eq c =
    names_form _ _ (same_text_found _ _ c.as_bytes.result.now _ _ c.eq.result _ c.loop-value.invariant
    c.loop-value-test.true c.as_bytes.ensures.value c.eq.ensures c.if-eq.true)

pub returns : goal.returns
returns c = names_form _ _ (no_text_found _ _ _ _ c.loop-value.invariant c.loop-value-test.false)
