use Rattle.std.proofs.Common.{◌≡◌, ◌∙◌, false, ap, get_or, subst, sym, take_all, arith}
use Rattle.serve_core.proofs.Items.Lists.{slice_get_here}
use Rattle.serve_core.proofs.Rules.Admissions.{all_more}
use Rattle.serve_client.specs.Streams.{is_waiting}
use Rattle.serve_work.specs.SessionInside.{AreAllOver}
use Rattle.serve_work.proofs.session.epochs.any_waits.Goals as goal

pub loop-stream-preserved : goal.loop-stream-preserved
loop-stream-preserved g c =
    let streams = c.args.streams.now.items in
    let i = c.loop-stream.stream-index in
    let stream = c.stream-item.result in
    let here = c.stream-item.is ∙ ap (λ items. get_or items i stream) c.deref-stream-items.ensures.value in
    all_more (λ stream. is_waiting stream ≡ false) streams i stream
    (slice_get_here streams i stream (omega (arith, c.loop-stream-test.true)) here) c.loop-stream.invariant
    (sym c.is_waiting.ensures ∙ c.if-is_waiting.false)

pub returns-clause-over : goal.returns-clause-over
returns-clause-over g c = λ _.
    let streams = c.args.streams.now.items in
    subst AreAllOver (take_all c.loop-stream.stream-index streams (omega (arith, c.loop-stream-test.false))) c.loop-stream.invariant
