use Rattle.std.proofs.Common.{ℕ, suc, ◌+◌, ◌≡◌, List, length, Option, Some, slice_get, slice_set, ◌∙◌, ap, arith}
use Rattle.serve_core.specs.States.{ready_deadline}
use Rattle.serve_core.proofs.Items.Lists.{slice_get_here}
use Rattle.serve_core.proofs.Schedules.Retiring.{length_shown, shown_all, shown_first, shown_next, shown_none}
use Rattle.serve_core.proofs.schedule.show_all.Goals as goal

pub loop-s-init : goal.loop-s-init
loop-s-init c = c.requires.pool ∙ shown_none c.args.streams.now

pub show-requires : goal.show-requires
show-requires c =
    let count = length_shown c.args.streams.now c.loop-s.s in
    let shown = ap length c.loop-s.invariant in
    omega (arith, count, shown, c.loop-s-test.true)

pub loop-s-preserved : goal.loop-s-preserved
loop-s-preserved c =
    let streams = c.args.streams.now in
    let s = c.loop-s.s in
    let stream = c.index-streams-s.result in
    let here : slice_get streams s ≡ Some stream =
    slice_get_here streams s stream c.loop-s-test.true c.index-streams-s.is in
    let next : suc s ≡ s + 1 = omega arith in
    c.show.ensures
    ∙ ap (λ (shown : List (Option ℕ)). slice_set shown s (ready_deadline stream.state)) c.loop-s.invariant
    ∙ shown_next streams s stream here ∙ ap (λ (n : ℕ). shown_first n streams) next

pub returns : goal.returns
returns c = c.loop-s.invariant ∙ shown_all c.args.streams.now c.loop-s.s c.loop-s-test.false
