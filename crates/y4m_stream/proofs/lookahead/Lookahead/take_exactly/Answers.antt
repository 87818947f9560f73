use Rattle.std.proofs.Common.{arith, ap, ◌∙◌}
use Rattle.std.proofs.lemmas.Result.{on_ok_weaker, IfErr-weaker}
use Rattle.y4m_stream.specs.declared.fault.ReadFault.TheVariants.{Device}
use Rattle.y4m_stream.specs.Inside.{LookaheadState}
use Rattle.y4m_stream.proofs.Known.{Consumes-both}
use Rattle.y4m_stream.proofs.Reading.{LacksBytes-behind}
use Rattle.y4m_stream.proofs.lookahead.Lookahead.take_exactly.Goals as goal

pub returns-clause-ok : goal.returns-clause-ok
returns-clause-ok g c =
    let taken = c.take_into-taken in
    let opened = c.self.view_is ∙ taken.ensures.left in
    let held = ap (λ (a : LookaheadState). a.held) opened in
    let left = ap (λ (a : LookaheadState). a.left) opened in
    rw (← left)
    (on_ok_weaker c.fill_exactly.result
    (Consumes-both _ _ c.args.self.now.held _ taken.new.out c.fill_exactly.new.out taken.result (omega arith)
    taken.ensures.moved held (omega (arith, c.fill_exactly.auto.out)))
    c.fill_exactly.ensures.ok)

pub returns-clause-fault : goal.returns-clause-fault
returns-clause-fault g c =
    let taken = c.take_into-taken in
    let opened = c.self.view_is ∙ taken.ensures.left in
    let left = ap (λ (a : LookaheadState). a.left) opened in
    rw (← left)
    (IfErr-weaker c.fill_exactly.result _ _
    (λ fault lacks. LacksBytes-behind fault _ _ c.args.self.now.held _ taken.result _ taken.ensures.count (omega arith) lacks)
    c.fill_exactly.ensures.fault)

pub returns-clause-given : goal.returns-clause-given
returns-clause-given g c =
    let taken = c.take_into-taken in
    let opened = c.self.view_is ∙ taken.ensures.left in
    let left = ap (λ (a : LookaheadState). a.left) opened in
    rw (← left)
    (IfErr-weaker c.fill_exactly.result _ _
    (λ fault lacks. LacksBytes-behind Device _ _ c.args.self.now.held _ taken.result _ taken.ensures.count (omega arith) lacks)
    c.fill_exactly.ensures.given)
