use Rattle.std.proofs.Common.{◌≡◌, All, Some, slice_get, refl, subst, arith, take_all}
use Rattle.serve_core.specs.Setup.{IsWithinLimits}
use Rattle.serve_core.proofs.Items.Lists.{slice_get_here}
use Rattle.serve_core.proofs.Rules.Admissions.{all_more}
use Rattle.serve_core.proofs.setup.are_within_limits.Goals as goal

pub loop-stream-preserved : goal.loop-stream-preserved
loop-stream-preserved c =
    let streams = c.args.streams.now in
    let i = c.loop-stream.stream-index in
    let stream = c.stream-item.result in
    let here : slice_get streams i ≡ Some stream =
    slice_get_here streams i stream (omega arith) c.stream-item.is in
    all_more IsWithinLimits streams i stream here c.loop-stream.invariant
    (c.if-not-is_within_limits.ensures.0 refl)

pub returns : goal.returns
returns c =
    let all = take_all c.loop-stream.stream-index c.args.streams.now (omega arith) in
    (λ e. subst (All IsWithinLimits) all c.loop-stream.invariant, λ a. refl)
