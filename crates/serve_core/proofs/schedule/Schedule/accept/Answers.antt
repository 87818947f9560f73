use Rattle.std.proofs.Common.{slice_get, ◌∙◌, ap}
use Rattle.serve_core.specs.Schedule.{with_stream_at}
use Rattle.serve_core.specs.ScheduleInside.{schedule}
use Rattle.serve_core.specs.Streams.{HasPlace, IsFresh, KeptStream}
use Rattle.serve_core.proofs.Items.Options.{and_some}
use Rattle.serve_core.proofs.Schedules.Shown.{item_here, shown_again, within_shown}
use Rattle.serve_core.proofs.schedule.Schedule.accept.Goals as goal

pub accept-number-requires-clause-place : goal.accept-number-requires-clause-place
accept-number-requires-clause-place c =
    let stream = c.index_mut-stream.result.now in
    let here = item_here (λ (stream : KeptStream). HasPlace stream.state × IsFresh stream.state.spec.chain c.args.job)
    c.self.inside.streams.items c.args.s stream (rw (← c.self.view_is) at c.requires) c.index_mut-stream.ensures.value in
    here.1.0

pub accept-number-requires-clause-fresh : goal.accept-number-requires-clause-fresh
accept-number-requires-clause-fresh c =
    let stream = c.index_mut-stream.result.now in
    let here = item_here (λ (stream : KeptStream). HasPlace stream.state × IsFresh stream.state.spec.chain c.args.job)
    c.self.inside.streams.items c.args.s stream (rw (← c.self.view_is) at c.requires) c.index_mut-stream.ensures.value in
    here.1.1

pub show-requires : goal.show-requires
show-requires c =
    let stream = c.index_mut-stream.result.now in
    let here = item_here (λ (stream : KeptStream). HasPlace stream.state × IsFresh stream.state.spec.chain c.args.job)
    c.self.inside.streams.items c.args.s stream (rw (← c.self.view_is) at c.requires) c.index_mut-stream.ensures.value in
    within_shown c.self.inside.pool c.self.inside.streams.items c.args.s stream c.self.invariant.pool here.0

pub invariant_of-self : goal.invariant_of-self
invariant_of-self c = record {
  clock = c.self.invariant.clock;
  pool = c.show.ensures
      ∙ shown_again c.self.inside.pool c.self.inside.streams.items c.args.s c.accept-number.new.self c.self.invariant.pool;
}

pub returns : goal.returns
returns c =
    let stream = c.index_mut-stream.result.now in
    let here = item_here (λ (stream : KeptStream). HasPlace stream.state × IsFresh stream.state.spec.chain c.args.job)
    c.self.inside.streams.items c.args.s stream (rw (← c.self.view_is) at c.requires) c.index_mut-stream.ensures.value in
    rw (← c.self.view_is) (and_some (slice_get c.self.inside.streams.items c.args.s) _ stream here.0 (
      c.accept-number.ensures.number,
      ap (λ (stream : KeptStream). with_stream_at c.args.s stream (schedule c.self.inside)) c.accept-number.ensures.accepted,
    ))
