use Rattle.serve_audit.proofs.Histories.{all_more, first_wrong, wrong_history}
use Rattle.serve_audit.proofs.check_all.Goals as goal

pub returns-in-Ok-false-clause-exact : goal.returns-in-Ok-false-clause-exact
returns-in-Ok-false-clause-exact c = λ i same.
    wrong_history c.args.specs.now c.args.tally.now c.args.entries.now c.loop-i.i
    (first_wrong c.args.specs.now c.args.tally.now c.loop-i.tally c.check.new.tally c.args.entries.now c.loop-i.i _ _
    c.in-Ok-false.field-0-test c.loop-i-test.true c.loop-i.invariant c.in-Ok-false.ensures.checked)

pub loop-i-preserved : goal.loop-i-preserved
loop-i-preserved c =
    all_more c.args.specs.now c.args.tally.now c.loop-i.tally c.check.new.tally c.args.entries.now c.loop-i.i _ _
    c.in-Ok-true.field-0-test c.loop-i-test.true c.loop-i.invariant c.in-Ok-true.ensures.checked
