use Rattle.std.proofs.Common.{◌∙◌, Some, ap, arith, subst, sym}
use Rattle.serve_hub.specs.Seats.{StreamSeatValue}
use Rattle.serve_client.specs.Clients.{IsClosedUnlessTorn}
use Rattle.serve_client.specs.ClientInside.{KeepsMoments}
use Rattle.serve_client.specs.Rests.{Outset, course_stop_before}
use Rattle.serve_client.proofs.Allowing.{fault_kept, kept_allowed}
use Rattle.serve_client.proofs.Resting.{outset_of, tallied_later, untorn_or_silent}
use Rattle.serve_client.proofs.clients.run.Goals as goal

pub returns-in-Done-clause-turn : goal.returns-in-Done-clause-turn
returns-in-Done-clause-turn g c = λ start past running.
    let old = c.args.pipeline in
    let first : Outset = record { reader = start.reader; seat = start.seat; writer = running.opened } in
    let o = outset_of start running.shown running.opened running.first running.is_opened in
    let serves = c.in-Done.ensures.answer past first o running.tally.offers running.before in (
      c.end.ensures.ends start past running.shown running.opened running.header running.is_opened running.first serves.0
          (tallied_later past start.seat old.seat c.serve.new.self.seat _ c.serve.new.self.writer running.tally
          (untorn_or_silent c.args.course past first old.reader old.seat old.writer c.serve.new.self.writer _ running.before
          c.in-Done.ensures.silent) c.in-Done.ensures.tally),
      ap (λ (s : StreamSeatValue). s.kept) c.end.ensures.seat ∙ serves.1,
      subst IsClosedUnlessTorn (sym c.end.ensures.seat) serves.2,
    )

pub returns-in-Paused-clause-turn : goal.returns-in-Paused-clause-turn
returns-in-Paused-clause-turn g c = λ start past running.
    let old = c.args.pipeline in
    let first : Outset = record { reader = start.reader; seat = start.seat; writer = running.opened } in
    let o = outset_of start running.shown running.opened running.first running.is_opened in
    record {
      shown = running.shown;
      opened = running.opened;
      header = running.header;
      is_opened = running.is_opened;
      first = running.first;
      at = c.in-Paused.ensures.answer past first o running.tally.offers running.before;
      same_header = c.serve.ensures.header ∙ running.same_header;
      tally = tallied_later past start.seat old.seat c.serve.new.self.seat _ _ running.tally
          (untorn_or_silent c.args.course past first old.reader old.seat old.writer c.serve.new.self.writer _ running.before
          c.in-Paused.ensures.silent) c.in-Paused.ensures.tally;
      accepted = c.accepted-accepted.ensures;
      collected = omega (arith, c.saturating_sub.ensures, c.accepted-accepted.ensures, c.kept.ensures);
    }

pub returns-in-Done-clause-moments : goal.returns-in-Done-clause-moments
returns-in-Done-clause-moments g c =
    subst (λ (seat : StreamSeatValue). KeepsMoments (g.K.Clock.gives c.args.post.clock.now) c.args.pipeline.seat seat)
    (sym c.end.ensures.seat) c.serve.ensures.moments

pub returns-in-Done-clause-stop : goal.returns-in-Done-clause-stop
returns-in-Done-clause-stop g c = λ was.
    kept_allowed (g.K.Clock.gives c.args.post.clock.now) (Some c.in-Done.stop) (Some c.end.result.outcome.stop) c.end.ensures.stop
    (c.in-Done.ensures.stop was)

pub returns-in-Done-clause-fault : goal.returns-in-Done-clause-fault
returns-in-Done-clause-fault g c =
    fault_kept (course_stop_before c.args.course) (Some c.in-Done.stop) (Some c.end.result.outcome.stop) c.in-Done.ensures.fault
    c.end.ensures.fault
