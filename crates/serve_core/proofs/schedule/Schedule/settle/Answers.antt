use Rattle.std.proofs.Common.{IsSome, None, slice_get, slice_set, ◌∙◌, ap}
use Rattle.std.proofs.lemmas.Option.{IfSome_then, slice_get_within}
use Rattle.serve_core.specs.Schedule.{with_held, with_stream_at}
use Rattle.serve_core.specs.ScheduleInside.{schedule}
use Rattle.serve_core.specs.Streams.{KeptStream}
use Rattle.serve_core.proofs.Items.Lists.{slice_get_set_same}
use Rattle.serve_core.proofs.Items.Options.{and_some, none_then}
use Rattle.serve_core.proofs.Schedules.Shown.{item_here, shown_again}
use Rattle.serve_core.proofs.schedule.Schedule.settle.Goals as goal

pub invariant_of-self : goal.invariant_of-self
invariant_of-self c = record {
  clock = c.self.invariant.clock;
  pool = c.show.ensures ∙ shown_again c.self.inside.pool c.self.inside.streams.items c.args.held.stream c.settle-number.new.self
      c.self.invariant.pool;
}

pub returns-clause-requeued : goal.returns-clause-requeued
returns-clause-requeued c =
    let streams = c.self.inside.streams.items in
    let s = c.args.held.stream in
    let stream = c.index_mut-stream.result.now in
    let here = item_here (λ (stream : KeptStream). IsSome stream.leased) streams s stream
    (rw (← c.self.view_is) at c.requires.stream) c.index_mut-stream.ensures.value in
    let change = λ (stream : KeptStream). with_held c.args.w None (with_stream_at s stream (schedule c.self.inside)) in
    rw (← c.self.view_is) (none_then c.settle-number.result c.settle-number.ensures.requeued (λ told.
    and_some (slice_get streams s) _ stream here.0 (told.0, ap change told.1)))

pub returns-clause-finished : goal.returns-clause-finished
returns-clause-finished c =
    let streams = c.self.inside.streams.items in
    let s = c.args.held.stream in
    let stream = c.index_mut-stream.result.now in
    let after = c.settle-number.new.self in
    let here = item_here (λ (stream : KeptStream). IsSome stream.leased) streams s stream
    (rw (← c.self.view_is) at c.requires.stream) c.index_mut-stream.ensures.value in
    let there = slice_get_set_same streams s after (slice_get_within streams s stream here.0) in
    let change = λ (stream : KeptStream). with_held c.args.w None (with_stream_at s stream (schedule c.self.inside)) in
    rw (← c.self.view_is) (IfSome_then c.settle-number.result c.settle-number.ensures.finished (λ number told.
    and_some (slice_get streams s) _ stream here.0 (and_some (slice_get (slice_set streams s after) s) _ after there
    (told.0, told.1, told.3, ap change told.2))))
