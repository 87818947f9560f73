use Rattle.std.proofs.Common.{◌≡◌, Some, slice_get, ◌∙◌, sym, ap, subst, arith, take_all}
use Rattle.cbs_account.specs.Admission.{Fits}
use Rattle.serve_core.specs.Released.{with_held_share}
use Rattle.serve_core.specs.Schedule.{held_of_streams}
use Rattle.serve_core.proofs.Items.Lists.{slice_get_here}
use Rattle.serve_core.proofs.Schedules.Holdings.{fits_first, held_more}
use Rattle.serve_core.proofs.schedule.admission_of_held_shares.Goals as goal

pub hold-requires : goal.hold-requires
hold-requires c =
    let streams = c.args.streams.now in
    let i = c.loop-stream.stream-index in
    let stream = c.stream-item.result in
    let here : slice_get streams i ≡ Some stream = slice_get_here streams i stream (omega arith) c.stream-item.is in
    let more = ap (with_held_share c.args.moment stream.state) c.loop-stream.invariant
    ∙ held_more c.args.workers c.args.moment i streams stream here in
    subst Fits (sym more) (fits_first c.args.workers c.args.moment _ streams c.requires.fits)

pub loop-stream-preserved : goal.loop-stream-preserved
loop-stream-preserved c =
    let streams = c.args.streams.now in
    let i = c.loop-stream.stream-index in
    let stream = c.stream-item.result in
    let here : slice_get streams i ≡ Some stream = slice_get_here streams i stream (omega arith) c.stream-item.is in
    c.hold.ensures ∙ ap (with_held_share c.args.moment stream.state) c.loop-stream.invariant
    ∙ held_more c.args.workers c.args.moment i streams stream here

pub returns : goal.returns
returns c =
    c.loop-stream.invariant
    ∙ ap (held_of_streams c.args.workers c.args.moment)
    (take_all c.loop-stream.stream-index c.args.streams.now (omega arith))
