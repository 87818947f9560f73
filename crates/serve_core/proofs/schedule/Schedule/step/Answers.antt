use Rattle.std.proofs.Common.{Some, slice_get, slice_set, ◌∙◌, ap}
use Rattle.std.proofs.lemmas.Option.{slice_get_within}
use Rattle.serve_core.specs.AtOnce.{with_used}
use Rattle.serve_core.specs.Schedule.{CanStep, with_held, with_stream_at}
use Rattle.serve_core.specs.ScheduleInside.{schedule}
use Rattle.serve_core.specs.Streams.{KeptStream}
use Rattle.serve_core.proofs.Items.Lists.{slice_get_set_same}
use Rattle.serve_core.proofs.Items.Options.{and_some}
use Rattle.serve_core.proofs.Schedules.Shown.{item_here, shown_again}
use Rattle.serve_core.proofs.schedule.Schedule.step.Goals as goal

pub invariant_of-self : goal.invariant_of-self
invariant_of-self c = record {
  clock = c.self.invariant.clock;
  pool = c.show.ensures ∙ shown_again c.self.inside.pool c.self.inside.streams.items c.args.held.stream c.step.new.self
      c.self.invariant.pool;
}

pub returns : goal.returns
returns c =
    let streams = c.self.inside.streams.items in
    let s = c.args.held.stream in
    let stream = c.index_mut-stream.result.now in
    let here = item_here CanStep streams s stream (rw (← c.self.view_is) at c.requires.stream)
    c.index_mut-stream.ensures.value in
    let there = slice_get_set_same streams s c.step.new.self (slice_get_within streams s stream here.0) in
    let change = λ (stream : KeptStream). with_held c.args.w (Some (with_used 1 c.args.held))
    (with_stream_at s stream (schedule c.self.inside)) in
    rw (← c.self.view_is) (and_some (slice_get streams s) _ stream here.0
    (and_some (slice_get (slice_set streams s c.step.new.self) s) _ c.step.new.self there
    (c.step.ensures.leased, ap change c.step.ensures.worked)))
