use Rattle.serve_audit.proofs.Histories.{finish_follows, settle_none}
use Rattle.serve_audit.proofs.calls.settle.Goals as goal

pub returns-in_default : goal.returns-in_default
returns-in_default c =
    settle_none c.args.tally.now c.args.tally.now c.args.w c.args.count c.args.is_finished c.in_default.ensures.none

pub returns-then-is_finished : goal.returns-then-is_finished
returns-then-is_finished c =
    rw c.if-is_finished.true
    (finish_follows c.args.tally.now c.do_bands.new.tally c.finish.new.self c.args.w c.args.count c.in-Some.held
    c.finish.result c.in-Some.ensures.some c.if-not-do_bands.ensures c.finish.ensures)
