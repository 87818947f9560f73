use Rattle.std.specs.Prelude.{is_some}
use Rattle.std.proofs.Common.{◌≡◌, ◌∙◌, None, ap, false, get_or, subst, sym, take_all, true, arith}
use Rattle.serve_core.proofs.Items.Lists.{slice_get_here}
use Rattle.serve_core.proofs.Rules.Admissions.{all_more}
use Rattle.serve_work.specs.LiveInside.{AreAllTold}
use Rattle.serve_work.proofs.Retiring.{none_of}
use Rattle.serve_work.proofs.live.guests.any_left.Goals as goal

pub loop-guest-preserved : goal.loop-guest-preserved
loop-guest-preserved g c =
    let guests = c.args.guests.now.items in
    let i = c.loop-guest.guest-index in
    let guest = c.guest-item.result in
    let here = c.guest-item.is ∙ ap (λ items. get_or items i guest) c.deref-guest-items.ensures.value in
    all_more (λ guest. guest ≡ None) guests i guest (slice_get_here guests i guest (omega (arith, c.loop-guest-test.true)) here)
    c.loop-guest.invariant (none_of guest (sym c.is_some.ensures ∙ c.if-is_some.false))

pub returns-clause-none : goal.returns-clause-none
returns-clause-none g c = λ _.
    let guests = c.args.guests.now.items in
    subst AreAllTold (take_all c.loop-guest.guest-index guests (omega (arith, c.loop-guest-test.false))) c.loop-guest.invariant

pub returns-then-is_some-clause-any : goal.returns-then-is_some-clause-any
returns-then-is_some-clause-any g c = λ _ told.
    let i = c.loop-guest.guest-index in
    let guest = c.guest-item.result in
    let here = c.guest-item.is ∙ ap (λ items. get_or items i guest) c.deref-guest-items.ensures.value in
    let none : guest ≡ None = here ∙ told i guest (omega (arith, c.loop-guest-test.true)) in
    let both : true ≡ false = sym c.if-is_some.true ∙ c.is_some.ensures ∙ ap is_some none in absurd (cc)
