use Rattle.std.proofs.Common.{◌≡◌, ◌∙◌, Some, None, IsSome, ap, slice_get, subst, sym}
use Rattle.serve_core.specs.Desk.{CanBring, brought_by}
use Rattle.serve_core.specs.Schedule.{with_stream_at}
use Rattle.serve_core.specs.ScheduleInside.{schedule}
use Rattle.serve_core.specs.States.{ready_deadline}
use Rattle.serve_core.specs.Streams.{IsStarted, KeptStream, with_leased}
use Rattle.serve_core.proofs.Items.Options.{and_some}
use Rattle.serve_core.proofs.Schedules.Handing.{brought_still, shown_still}
use Rattle.serve_core.proofs.Schedules.Shown.{item_here}
use Rattle.serve_core.proofs.schedule.Schedule.return_job.Goals as goal

pub charge-requires-clause-charge : goal.charge-requires-clause-charge
charge-requires-clause-charge c =
    let stream = c.index_mut-stream.result.now in
    let here = item_here (CanBring c.args.job c.args.bands c.args.units) c.self.inside.streams.items c.args.s stream
    (rw (← c.self.view_is) at c.requires) c.index_mut-stream.ensures.value in
    here.1.charge

pub charge-requires-clause-no_overflow : goal.charge-requires-clause-no_overflow
charge-requires-clause-no_overflow c =
    let stream = c.index_mut-stream.result.now in
    let here = item_here (CanBring c.args.job c.args.bands c.args.units) c.self.inside.streams.items c.args.s stream
    (rw (← c.self.view_is) at c.requires) c.index_mut-stream.ensures.value in
    here.1.few

pub return_job-requires-clause-out : goal.return_job-requires-clause-out
return_job-requires-clause-out c =
    let stream = c.index_mut-stream.result.now in
    let here = item_here (CanBring c.args.job c.args.bands c.args.units) c.self.inside.streams.items c.args.s stream
    (rw (← c.self.view_is) at c.requires) c.index_mut-stream.ensures.value in
    subst (λ (stream : KeptStream). IsSome stream.state.holder) (sym c.charge.ensures) here.1.out

pub return_job-requires-clause-gone : goal.return_job-requires-clause-gone
return_job-requires-clause-gone c =
    let stream = c.index_mut-stream.result.now in
    let here = item_here (CanBring c.args.job c.args.bands c.args.units) c.self.inside.streams.items c.args.s stream
    (rw (← c.self.view_is) at c.requires) c.index_mut-stream.ensures.value in
    subst (λ (stream : KeptStream). stream.leased ≡ None) (sym c.charge.ensures) here.1.away

pub return_job-requires-clause-started : goal.return_job-requires-clause-started
return_job-requires-clause-started c =
    let stream = c.index_mut-stream.result.now in
    let here = item_here (CanBring c.args.job c.args.bands c.args.units) c.self.inside.streams.items c.args.s stream
    (rw (← c.self.view_is) at c.requires) c.index_mut-stream.ensures.value in
    subst (λ (stream : KeptStream). IsStarted stream.state.spec.chain stream.state.done c.args.job) (sym c.charge.ensures)
    here.1.started

pub invariant_of-self : goal.invariant_of-self
invariant_of-self c =
    let stream = c.index_mut-stream.result.now in
    let here = item_here (CanBring c.args.job c.args.bands c.args.units) c.self.inside.streams.items c.args.s stream
    (rw (← c.self.view_is) at c.requires) c.index_mut-stream.ensures.value in
    let new : c.return_job.new.self ≡ brought_by c.args.job c.args.bands stream =
    c.return_job.ensures ∙ ap (with_leased (Some c.args.job)) c.charge.ensures in
    record {
      clock = c.self.invariant.clock;
      pool = c.self.invariant.pool
          ∙ shown_still c.self.inside.streams.items c.args.s stream c.return_job.new.self here.0
          (ap (λ (stream : KeptStream). ready_deadline stream.state) new
          ∙ brought_still c.args.job c.args.bands stream here.1.out);
    }

pub returns : goal.returns
returns c =
    let stream = c.index_mut-stream.result.now in
    let here = item_here (CanBring c.args.job c.args.bands c.args.units) c.self.inside.streams.items c.args.s stream
    (rw (← c.self.view_is) at c.requires) c.index_mut-stream.ensures.value in
    let new : c.return_job.new.self ≡ brought_by c.args.job c.args.bands stream =
    c.return_job.ensures ∙ ap (with_leased (Some c.args.job)) c.charge.ensures in
    rw (← c.self.view_is) (and_some (slice_get c.self.inside.streams.items c.args.s) _ stream here.0
    (ap (λ (stream : KeptStream). with_stream_at c.args.s stream (schedule c.self.inside)) new))
