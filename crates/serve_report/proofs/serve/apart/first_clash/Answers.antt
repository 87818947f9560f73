use Rattle.std.proofs.Common.{AllPairs, arith, subst}
use Rattle.std.proofs.lemmas.Bool.{iff_false}
use Rattle.std.proofs.lemmas.List.{take_all}
use Rattle.serve_report.specs.Apart.{IsApart}
use Rattle.serve_report.proofs.Apart.{first_of_all, one_more_apart}
use Rattle.serve_report.proofs.serve.apart.first_clash.Goals as goal

pub returns-then-has_clash : goal.returns-then-has_clash
returns-then-has_clash c =
    first_of_all c.args.uses.now c.loop-i.i _ c.loop-i-test.true c.loop-i.invariant (c.has_clash.ensures.0 c.if-has_clash.true)

pub loop-i-preserved : goal.loop-i-preserved
loop-i-preserved c =
    one_more_apart c.args.uses.now c.loop-i.i _ c.loop-i-test.true c.loop-i.invariant
    (iff_false c.has_clash.ensures c.if-has_clash.false)

pub returns : goal.returns
returns c = subst (AllPairs IsApart) (take_all c.loop-i.i c.args.uses.now (omega arith)) c.loop-i.invariant
