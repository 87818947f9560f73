use Rattle.std.proofs.Common.{◌∙◌, IsSome, ap, slice_get}
use Rattle.serve_core.specs.Schedule.{with_stream_at}
use Rattle.serve_core.specs.ScheduleInside.{schedule}
use Rattle.serve_core.specs.States.{ready_deadline}
use Rattle.serve_core.specs.Streams.{KeptStream}
use Rattle.serve_core.proofs.Items.Options.{and_some}
use Rattle.serve_core.proofs.Schedules.Handing.{shown_still}
use Rattle.serve_core.proofs.Schedules.Shown.{item_here}
use Rattle.serve_core.proofs.schedule.Schedule.take_job.Goals as goal

pub invariant_of-self : goal.invariant_of-self
invariant_of-self c =
    let stream = c.index_mut-stream.result.now in
    let here = item_here (λ (stream : KeptStream). IsSome stream.leased) c.self.inside.streams.items c.args.s stream
    (rw (← c.self.view_is) at c.requires) c.index_mut-stream.ensures.value in
    record {
      clock = c.self.invariant.clock;
      pool = c.self.invariant.pool
          ∙ shown_still c.self.inside.streams.items c.args.s stream c.take_job.new.self here.0
          (ap (λ (stream : KeptStream). ready_deadline stream.state) c.take_job.ensures.gone);
    }

pub returns : goal.returns
returns c =
    let stream = c.index_mut-stream.result.now in
    let here = item_here (λ (stream : KeptStream). IsSome stream.leased) c.self.inside.streams.items c.args.s stream
    (rw (← c.self.view_is) at c.requires) c.index_mut-stream.ensures.value in
    rw (← c.self.view_is) (and_some (slice_get c.self.inside.streams.items c.args.s) _ stream here.0 (
      c.take_job.ensures.job,
      ap (λ (stream : KeptStream). with_stream_at c.args.s stream (schedule c.self.inside)) c.take_job.ensures.gone,
    ))
