use Rattle.std.proofs.Common.{◌≡◌, Some, not, true, refl, sym, ap, arith, slice_get}
use Rattle.std.proofs.lemmas.Option.{slice_get_within}
use Rattle.serve_core.specs.Bare.{Blank}
use Rattle.serve_core.specs.Released.{is_released}
use Rattle.serve_core.specs.States.{StreamState}
use Rattle.serve_core.proofs.Calls.Rows.{each_more, none_pass, some_pass}
use Rattle.serve_core.proofs.Items.Lists.{slice_get_here}
use Rattle.serve_core.proofs.tally.some_stays.Goals as goal

pub returns-then-not-is_released : goal.returns-then-not-is_released
returns-then-not-is_released c =
    let rows = c.args.rows.now in
    let i = c.loop-row.row-index in
    let x = c.row-item.result in
    let here : slice_get rows i ≡ Some x = slice_get_here rows i x (omega arith) c.row-item.is in (
      λ passes. some_pass (λ (x : StreamState Blank). not (is_released c.args.moment x)) rows i x here
          (ap not (sym c.if-not-is_released.ensures)),
      λ h. refl,
    )

pub loop-row-preserved : goal.loop-row-preserved
loop-row-preserved c =
    let rows = c.args.rows.now in
    let i = c.loop-row.row-index in
    let x = c.row-item.result in
    let here : slice_get rows i ≡ Some x = slice_get_here rows i x (omega arith) c.row-item.is in
    each_more (λ (x : StreamState Blank). is_released c.args.moment x ≡ true) rows i x here
    (sym c.if-not-is_released.ensures) c.loop-row.invariant

pub returns : goal.returns
returns c =
    let rows = c.args.rows.now in
    let test = λ (x : StreamState Blank). not (is_released c.args.moment x) in
    let none = none_pass test rows (λ i x e.
    ap not (c.loop-row.invariant i x (omega (arith, slice_get_within rows i x e)) e)) in
    (λ passes. absurd (cc), λ h. absurd (omega (arith, none, h)))
