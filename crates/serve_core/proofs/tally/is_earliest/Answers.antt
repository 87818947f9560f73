use Rattle.std.proofs.Common.{nat_lt, Option, refl, subst, sym}
use Rattle.std.specs.Prelude.{ℕ}
use Rattle.serve_core.specs.Sooner.{ComesBefore}
use Rattle.serve_core.specs.States.{ready_deadline}
use Rattle.serve_core.proofs.Calls.Sooner.{earliest_not, earliest_is, more_before}
use Rattle.serve_core.proofs.Items.Lists.{slice_get_here}
use Rattle.serve_core.proofs.tally.is_earliest.Goals as goal

pub returns-then-comes_before : goal.returns-then-comes_before
returns-then-comes_before c =
    let rows = c.args.rows.now in
    let x = c.index-rows-s.result in
    let y = c.index-rows-t.result in
    let e = slice_get_here rows c.args.s x c.requires c.index-rows-s.is in
    let f = slice_get_here rows c.loop-t.t y c.loop-t-test.true c.index-rows-t.is in
    let before : ComesBefore (ready_deadline y) c.in-Some.deadline (nat_lt c.loop-t.t c.args.s) =
    subst (λ (o : Option ℕ). ComesBefore o c.in-Some.deadline (nat_lt c.loop-t.t c.args.s))
    c.ready_deadline-in-loop-t.ensures (c.if-comes_before.ensures.0 refl) in (
      λ passes. absurd (cc),
      λ h. absurd (earliest_not rows c.args.s c.loop-t.t c.in-Some.deadline x y e (sym c.in-Some.ensures) f before h),
    )

pub loop-t-preserved : goal.loop-t-preserved
loop-t-preserved c =
    let rows = c.args.rows.now in
    let y = c.index-rows-t.result in
    let f = slice_get_here rows c.loop-t.t y c.loop-t-test.true c.index-rows-t.is in
    more_before rows c.args.s c.in-Some.deadline c.loop-t.t y c.loop-t.invariant f (λ before.
    let no = c.if-comes_before.ensures.1 (subst (λ (o : Option ℕ).
    ComesBefore o c.in-Some.deadline (nat_lt c.loop-t.t c.args.s)) (sym c.ready_deadline-in-loop-t.ensures) before) in
    absurd (cc))

pub returns : goal.returns
returns c =
    let rows = c.args.rows.now in
    let x = c.index-rows-s.result in
    let e = slice_get_here rows c.args.s x c.requires c.index-rows-s.is in (
      λ passes. earliest_is rows c.args.s c.in-Some.deadline c.loop-t.t x c.loop-t-test.false e (sym c.in-Some.ensures)
          c.loop-t.invariant,
      λ h. refl,
    )
