use Rattle.std.proofs.Common.{◌≡◌, ◌∙◌, All, Some, slice_get, ap, refl, subst, arith, take_all, rules}
use Rattle.serve_core.specs.Schedule.{ScheduleValue}
use Rattle.serve_core.specs.Streams.{IsOver}
use Rattle.serve_core.proofs.Items.Lists.{slice_get_here}
use Rattle.serve_core.proofs.Rules.Admissions.{all_more}
use Rattle.serve_core.proofs.desk.Desk.is_over.Goals as goal

pub loop-stream-preserved : goal.loop-stream-preserved
loop-stream-preserved c =
    let streams = c.streams-stream-items.result.now in
    let i = c.loop-stream.stream-index in
    let stream = c.stream-item.result in
    let here : slice_get streams i ≡ Some stream = slice_get_here streams i stream (omega arith) c.stream-item.is in
    all_more IsOver streams i stream here c.loop-stream.invariant (c.if-not-is_over.ensures.0 refl)

pub returns : goal.returns
returns c =
    let streams = c.streams-stream-items.result.now in
    let all = take_all c.loop-stream.stream-index streams (omega arith) in
    let shown : streams ≡ c.args.self.now.streams =
    c.streams-stream-items.ensures ∙ ap (λ (x : ScheduleValue). x.streams) c.self.view_is in
    (λ e. subst (All IsOver) (all ∙ shown) c.loop-stream.invariant, λ a. refl)

pub returns-then-not-is_over : goal.returns-then-not-is_over
returns-then-not-is_over c = search rules
