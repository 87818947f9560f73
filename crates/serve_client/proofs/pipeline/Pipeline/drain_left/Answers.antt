use Rattle.std.proofs.Common.{◌≡◌, ◌∙◌, Some, true, false, [], ap, refl, sym}
use Rattle.serve_hub.specs.Seats.{StreamSeatValue}
use Rattle.serve_client.specs.declared.stop.Halt.TheVariants.{Stopped}
use Rattle.serve_client.specs.ClientInside.{IsUseful}
use Rattle.serve_client.proofs.Allowing.{drained_stop, first_kept, kept_allowed}
use Rattle.serve_client.proofs.Hands.{left_can, tally_silent}
use Rattle.serve_client.proofs.Keeping.{closed_later, collected_whole, stopped_spoilt}
use Rattle.serve_client.proofs.Stopping.{Feeds-paused, Serves-drained, first_fault}
use Rattle.serve_client.proofs.Tallying.{KeepsMoments-trans, counted_later, none_given}
use Rattle.serve_client.proofs.pipeline.Pipeline.drain_left.Goals as goal

pub returns-in-Full : goal.returns-in-Full
returns-in-Full g c =
    let old = c.args.self.now in
    let image = c.in-Full.image in
    record {
      answer = λ past o is counted at. (
        at.0,
        Feeds-paused past c.args.stop o.reader old.reader o.seat old.seat c.drain.new.seat o.writer old.writer c.drain.new.writer
            image at.0 at.1 c.in-Full.ensures.answer c.drain.ensures.tally.seat,
        closed_later old.seat c.drain.new.seat c.drain.ensures.tally.seat at.2,
      );
      tally = c.in-Full.ensures.tally;
      silent = λ is. absurd is;
      moments = none_given _ _ _ c.drain.ensures.tally.seat c.drain.ensures.stays;
      stop = λ was. was;
      fault = λ kept. refl;
      memory = left_can image old.seat.chain c.drain.new.writer c.in-Full.ensures.left;
      header = refl;
    }

pub returns-then-is_spoilt : goal.returns-then-is_spoilt
returns-then-is_spoilt g c =
    let gives = g.K.Clock.gives c.args.post.clock.now in
    let old = c.args.self.now in
    let last = c.in-Stopped.last in
    let on = c.in-Stopped.ensures in
    let left = c.discard_left.ensures in
    let accepted = ap (λ (s : StreamSeatValue). s.accepted) c.drain.ensures.stays in
    record {
      answer = λ past o is counted at.
          let spoilt : IsUseful last → ⊥ = λ useful.
          let both : true ≡ false = sym c.if-is_spoilt.true ∙ c.is_spoilt.ensures.useful.1 useful in absurd (cc) in
          left.answer past o is (counted_later past _ _ on.tally.seat counted) (
            (
              first_fault c.args.stop last c.or-told.result c.or-told.ensures spoilt,
              stopped_spoilt last old.seat c.drain.new.seat old.writer c.drain.new.writer [] spoilt on.answer,
              Serves-drained past o.reader old.reader o.seat o.writer is.fresh.kept is.writing c.args.stop last c.or-told.result
                  old.seat c.drain.new.seat old.writer c.drain.new.writer at.0 at.1 on.answer on.own
                  (λ e. on.drained (ap Stopped e)) accepted on.tally.seat c.or-told.ensures,
            ),
            closed_later old.seat c.drain.new.seat on.tally.seat at.2,
          );
      tally = tally_silent _ _ _ _ _ _ _ on.tally left.tally.seat (left.silent tt);
      silent = λ is. absurd is;
      moments = KeepsMoments-trans _ _ _ _ (none_given gives _ _ on.tally.seat c.drain.ensures.stays) left.moments;
      stop = λ was. left.stop
          (kept_allowed gives (Some c.args.stop) (Some c.or-told.result)
          (drained_stop c.args.stop last c.or-told.result on.own c.or-told.ensures) was);
      fault = λ kept.
          let told = first_kept c.args.stop last c.or-told.result kept c.or-told.ensures in
          left.fault (λ is. kept (sym told ∙ is)) ∙ ap Some told;
      memory = left.memory;
      header = left.header;
    }

pub returns-else-is_spoilt : goal.returns-else-is_spoilt
returns-else-is_spoilt g c =
    let old = c.args.self.now in
    let last = c.in-Stopped.last in
    let on = c.in-Stopped.ensures in
    record {
      answer = λ past o is counted at. (
        Serves-drained past o.reader old.reader o.seat o.writer is.fresh.kept is.writing c.args.stop last c.or-told.result
            old.seat c.drain.new.seat old.writer c.drain.new.writer at.0 at.1 on.answer on.own
            (λ e. on.drained (ap Stopped e)) (ap (λ (s : StreamSeatValue). s.accepted) c.drain.ensures.stays) on.tally.seat
            c.or-told.ensures,
        (on.drained (ap Stopped (collected_whole last (c.is_spoilt.ensures.useful.0 c.if-is_spoilt.false) on.own))).none,
        closed_later old.seat c.drain.new.seat on.tally.seat at.2,
      );
      tally = on.tally;
      silent = λ is. absurd is;
      moments = none_given _ _ _ on.tally.seat c.drain.ensures.stays;
      stop = kept_allowed _ (Some c.args.stop) (Some c.or-told.result)
          (drained_stop c.args.stop last c.or-told.result on.own c.or-told.ensures);
      fault = λ kept. ap Some (first_kept c.args.stop last c.or-told.result kept c.or-told.ensures);
      memory = tt;
      header = refl;
    }
