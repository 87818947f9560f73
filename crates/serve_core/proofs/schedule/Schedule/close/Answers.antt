use Rattle.std.proofs.Common.{slice_get, ◌∙◌, ap, arith}
use Rattle.serve_core.specs.Schedule.{with_stream_at}
use Rattle.serve_core.specs.ScheduleInside.{schedule}
use Rattle.serve_core.specs.Streams.{KeptStream}
use Rattle.serve_core.proofs.Items.Lists.{slice_get_here}
use Rattle.serve_core.proofs.Items.Options.{and_some, err_then}
use Rattle.serve_core.proofs.Schedules.Shown.{put_again, shown_again}
use Rattle.serve_core.proofs.schedule.Schedule.close.Goals as goal

pub returns-in_err-close-clause-err : goal.returns-in_err-close-clause-err
returns-in_err-close-clause-err c =
    let streams = c.self.inside.streams.items in
    let stream = c.index_mut-stream.result.now in
    let here = slice_get_here streams c.args.s stream (omega arith) c.index_mut-stream.ensures.value in
    let told = c.in_err-close.ensures.err in
    rw (← c.self.view_is) (err_then c.from_residual.result c.from_residual.ensures.1 (λ e same. (
      ap (λ (stream : KeptStream). with_stream_at c.args.s stream (schedule c.self.inside)) told.2
          ∙ put_again c.args.s stream (schedule c.self.inside) here,
      rw here (told.1, same ∙ told.0),
    )))

pub invariant_of-self-2 : goal.invariant_of-self-2
invariant_of-self-2 c = record {
  clock = c.self.invariant.clock;
  pool = c.show.ensures ∙ shown_again c.self.inside.pool c.self.inside.streams.items c.args.s c.close.new.self
      c.self.invariant.pool;
}

pub returns-clause-ok : goal.returns-clause-ok
returns-clause-ok c =
    let streams = c.self.inside.streams.items in
    let stream = c.index_mut-stream.result.now in
    let here = slice_get_here streams c.args.s stream (omega arith) c.index_mut-stream.ensures.value in
    let done = c.in_ok-close.ensures.ok in
    rw (← c.self.view_is) (and_some (slice_get streams c.args.s) _ stream here
    (done.0, ap (λ (stream : KeptStream). with_stream_at c.args.s stream (schedule c.self.inside)) done.1))
