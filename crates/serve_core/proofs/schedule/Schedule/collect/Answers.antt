use Rattle.std.proofs.Common.{◌<◌, slice_get, ◌∙◌, ap}
use Rattle.serve_core.specs.Schedule.{with_stream_at}
use Rattle.serve_core.specs.ScheduleInside.{schedule}
use Rattle.serve_core.specs.Streams.{KeptStream}
use Rattle.serve_core.proofs.Items.Options.{and_some}
use Rattle.serve_core.proofs.Schedules.Shown.{item_here, shown_again}
use Rattle.serve_core.proofs.schedule.Schedule.collect.Goals as goal

pub invariant_of-self : goal.invariant_of-self
invariant_of-self c = record {
  clock = c.self.invariant.clock;
  pool = c.show.ensures ∙ shown_again c.self.inside.pool c.self.inside.streams.items c.args.s c.collect.new.self
      c.self.invariant.pool;
}

pub returns-clause-ok : goal.returns-clause-ok
returns-clause-ok c =
    let streams = c.self.inside.streams.items in
    let stream = c.index_mut-stream.result.now in
    let here = item_here (λ (stream : KeptStream). stream.state.collected < stream.state.finished) streams c.args.s stream
    (rw (← c.self.view_is) at c.in_default.ensures.none) c.index_mut-stream.ensures.value in
    let told = c.in-Some-collect.ensures in
    rw (← c.self.view_is) (and_some (slice_get streams c.args.s) _ stream here.0 (
      record { first = told.first; frame = told.source; image = told.pair; less = told.less },
      ap (λ (stream : KeptStream). with_stream_at c.args.s stream (schedule c.self.inside)) told.taken,
    ))
