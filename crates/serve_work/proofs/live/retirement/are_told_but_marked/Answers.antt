use Rattle.std.proofs.Common.{arith}
use Rattle.serve_work.proofs.Retiring.{is_within, told_more}
use Rattle.serve_work.proofs.live.retirement.are_told_but_marked.Goals as goal

pub loop-place-preserved : goal.loop-place-preserved
loop-place-preserved g c = record {
  told = told_more c.args.marks.now c.args.guests.now c.loop-place.place c.index-guests-place.result c.loop-place.invariant.told
      (c.is_told_or_marked.ensures c.if-not-is_told_or_marked.false) c.index-guests-place.is;
}

pub returns : goal.returns
returns g c = λ _ k guest mark here.
    c.loop-place.invariant.told k guest
    (omega (arith, is_within c.args.guests.now k guest here, c.loop-place-test.false)) mark here
