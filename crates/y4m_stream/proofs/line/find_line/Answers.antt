use Rattle.std.proofs.Common.{rules, arith, ap, length, sym, ◌∙◌}
use Rattle.std.proofs.lemmas.Grind.{common_steps}
use Rattle.y4m_stream.specs.Front.{HasNoLineFeed}
use Rattle.y4m_stream.proofs.Known.{IsLongLine-front}
use Rattle.y4m_stream.proofs.LineFeeds.{begins_with_line, no_feed}
use Rattle.y4m_stream.proofs.line.find_line.Goals as goal

pub returns-in-Some-clause-line : goal.returns-in-Some-clause-line
returns-in-Some-clause-line g c =
    rw (← c.bytes.ensures.value) (begins_with_line c.bytes.result.now c.in-Some.end
    (rw c.bytes.ensures.value c.bytes.ensures.few_held) (sym c.place_of.ensures ∙ c.in-Some.is))

pub returns-then-bytes-eq-LINE_LIMIT-clause-fault : goal.returns-then-bytes-eq-LINE_LIMIT-clause-fault
returns-then-bytes-eq-LINE_LIMIT-clause-fault g c =
    IsLongLine-front _ _ c.loop-end.input.held c.loop-end.invariant.kept
    (omega (arith, ap length c.bytes-in-loop-end.ensures.value))
    (rw (← c.bytes.ensures.value) (no_feed c.bytes.result.now (sym c.place_of.ensures ∙ c.in_default.is)))

pub returns-in-Ok-eq0-clause-fault : goal.returns-in-Ok-eq0-clause-fault
returns-in-Ok-eq0-clause-fault g c =
    let none : HasNoLineFeed c.loop-end.input.held =
    rw (← c.bytes.ensures.value) (no_feed c.bytes.result.now (sym c.place_of.ensures ∙ c.in_default.is)) in
    grind (arith, common_steps)

pub returns-in-Err-clause-fault : goal.returns-in-Err-clause-fault
returns-in-Err-clause-fault g c =
    let none : HasNoLineFeed c.loop-end.input.held =
    rw (← c.bytes.ensures.value) (no_feed c.bytes.result.now (sym c.place_of.ensures ∙ c.in_default.is)) in
    search rules
