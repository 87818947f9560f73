use Rattle.std.proofs.Common.{◌≡◌, Some, slice_get, ◌∙◌, sym, ap, subst, arith, take_all}
use Rattle.cbs_account.specs.Admission.{Fits}
use Rattle.serve_core.specs.Released.{with_held_share}
use Rattle.serve_core.specs.Tally.{held_of_rows}
use Rattle.serve_core.proofs.Calls.Rows.{rows_fit, rows_more}
use Rattle.serve_core.proofs.Items.Lists.{slice_get_here}
use Rattle.serve_core.proofs.tally.admission_of_held_shares.Goals as goal

pub hold-requires : goal.hold-requires
hold-requires c =
    let rows = c.args.rows.now in
    let i = c.loop-row.row-index in
    let x = c.row-item.result in
    let here : slice_get rows i ≡ Some x = slice_get_here rows i x (omega arith) c.row-item.is in
    let more = ap (with_held_share c.args.moment x) c.loop-row.invariant
    ∙ rows_more c.args.workers c.args.moment i rows x here in
    subst Fits (sym more) (rows_fit c.args.workers c.args.moment _ rows c.requires.fits)

pub loop-row-preserved : goal.loop-row-preserved
loop-row-preserved c =
    let rows = c.args.rows.now in
    let i = c.loop-row.row-index in
    let x = c.row-item.result in
    let here : slice_get rows i ≡ Some x = slice_get_here rows i x (omega arith) c.row-item.is in
    c.hold.ensures ∙ ap (with_held_share c.args.moment x) c.loop-row.invariant
    ∙ rows_more c.args.workers c.args.moment i rows x here

pub returns : goal.returns
returns c =
    c.loop-row.invariant
    ∙ ap (held_of_rows c.args.workers c.args.moment) (take_all c.loop-row.row-index c.args.rows.now (omega arith))
