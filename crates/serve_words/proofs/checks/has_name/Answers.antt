use Rattle.std.proofs.Common.{◌∙◌, true, false, sym}
use Rattle.serve_words.proofs.Asking.{named_from}
use Rattle.serve_words.proofs.checks.has_name.Goals as goal

pub loop-asked-preserved : goal.loop-asked-preserved
loop-asked-preserved c =
    c.loop-asked.invariant
    ∙ named_from c.args.name.now c.args.streams.now c.loop-asked.asked-index c.asked-item.result false
    c.loop-asked-test.true c.asked-item.is (sym c.eq.ensures ∙ c.if-eq.false)

pub returns-then-eq : goal.returns-then-eq
returns-then-eq c =
    sym (c.loop-asked.invariant
    ∙ named_from c.args.name.now c.args.streams.now c.loop-asked.asked-index c.asked-item.result true
    c.loop-asked-test.true c.asked-item.is (sym c.eq.ensures ∙ c.if-eq.true))
