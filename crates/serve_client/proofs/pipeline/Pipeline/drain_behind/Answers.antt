use Rattle.std.proofs.Common.{[], Some, ap, refl, sym, ◌∙◌}
use Rattle.serve_client.specs.declared.stop.Halt.TheVariants.{Stopped}
use Rattle.serve_client.specs.ClientInside.{IsOfWriting, StopsWith}
use Rattle.serve_client.specs.Hands.{counted_with, with_kept}
use Rattle.serve_client.proofs.Allowing.{drained_stop, first_kept, kept_allowed}
use Rattle.serve_client.proofs.Finishing.{full_can, writing_collects, writing_delivers, writing_unfinished}
use Rattle.serve_client.proofs.Hands.{TalliesSeat-kept, Tallies-less, tally_silent}
use Rattle.serve_client.proofs.Moving.{few_later, none_later, size_later, writing_later}
use Rattle.serve_client.proofs.Keeping.{stopped_spoilt}
use Rattle.serve_client.proofs.Stopping.{Feeds-drained, Feeds-paused, Serves-drained, first_fault}
use Rattle.serve_client.proofs.Tallying.{KeepsMoments-same, Tallies-trans}
use Rattle.serve_client.proofs.pipeline.Pipeline.drain_behind.Goals as goal

pub drain_left-requires : goal.drain_left-requires
drain_left-requires g c =
    let can = c.requires.can in
    let moved = c.in-Ok.ensures.answer c.args.self.now.seat can.before can.begun in
    record {
      can = record {
        few = few_later _ _ _ _ moved can.can.few;
        writing = writing_later _ _ _ _ [] moved can.can.writing;
        none = none_later _ _ _ _ [] moved can.can.none;
        size = size_later _ _ _ _ [] moved can.can.size;
      };
    }

pub returns-in-Ok : goal.returns-in-Ok
returns-in-Ok g c =
    let old = c.args.self.now in
    let left = c.drain_left.ensures in
    record {
      answer = λ past o is counted at. left.answer past o is counted (
        at.0,
        Feeds-drained past c.args.stop o.reader old.reader o.seat (with_kept c.args.pair old.seat) old.seat o.writer at.1.0
            c.finish.new.writer at.0 at.1.2 (c.in-Ok.ensures.answer old.seat at.1.0 at.1.1) (TalliesSeat-kept c.args.pair old.seat),
        at.2,
      );
      tally = Tallies-trans _ _ _ _ _ _ refl
          (Tallies-less old.seat (counted_with (Some c.args.pair) old.writer) c.finish.new.writer c.in-Ok.ensures.count) left.tally;
      silent = λ is. absurd is;
      moments = left.moments;
      stop = left.stop;
      fault = left.fault;
      memory = left.memory;
      header = left.header;
    }

pub returns-in-Err-Full : goal.returns-in-Err-Full
returns-in-Err-Full g c =
    let old = c.args.self.now in
    let image = c.in-Err-Full.image in
    record {
      answer = λ past o is counted at. (
        at.0,
        Feeds-paused past c.args.stop o.reader old.reader o.seat (with_kept c.args.pair old.seat) old.seat o.writer at.1.0
            c.finish.new.writer image at.0 at.1.2
            (rw c.in-Err-Full.field-0-is at (c.in-Err-Full.ensures.answer old.seat at.1.0 at.1.1)) (TalliesSeat-kept c.args.pair old.seat),
        at.2,
      );
      tally = Tallies-less old.seat (counted_with (Some c.args.pair) old.writer) (counted_with image c.finish.new.writer)
          (rw c.in-Err-Full.field-0-is at c.in-Err-Full.ensures.count);
      silent = λ is. absurd is;
      moments = KeepsMoments-same _ _ _ refl;
      stop = λ was. was;
      fault = λ kept. refl;
      memory = full_can image c.args.pair c.finish.new.writer (rw c.in-Err-Full.field-0-is at c.in-Err-Full.ensures.left);
      header = refl;
    }

pub discard_left-requires : goal.discard_left-requires
discard_left-requires g c =
    let last = c.in-Err-Stopped.last in
    let own : IsOfWriting (Stopped last) = rw c.in-Err-Stopped.field-0-is at c.in-Err-Stopped.ensures.own in
    record { can = first_fault c.args.stop last c.or.result c.or.ensures (writing_delivers (Stopped last) own) }

pub returns : goal.returns
returns g c =
    let old = c.args.self.now in
    let last = c.in-Err-Stopped.last in
    let left = c.discard_left.ensures in
    let own : IsOfWriting (Stopped last) = rw c.in-Err-Stopped.field-0-is at c.in-Err-Stopped.ensures.own in
    record {
      answer = λ past o is counted at.
          let kept = with_kept c.args.pair old.seat in
          let stops : StopsWith last kept old.seat at.1.0 c.finish.new.writer [] = rw c.in-Err-Stopped.field-0-is at
          (c.in-Err-Stopped.ensures.answer old.seat at.1.0 at.1.1) in
          left.answer past o is counted (
            (
              first_fault c.args.stop last c.or.result c.or.ensures (writing_delivers (Stopped last) own),
              stopped_spoilt last kept old.seat at.1.0 c.finish.new.writer [] (writing_delivers (Stopped last) own) stops,
              Serves-drained past o.reader old.reader o.seat o.writer is.fresh.kept is.writing c.args.stop last c.or.result kept old.seat
                  at.1.0 c.finish.new.writer at.0 at.1.2 stops (writing_collects (Stopped last) own)
                  (λ e. writing_unfinished _ (Stopped last) own (ap Stopped e)) refl (TalliesSeat-kept c.args.pair old.seat) c.or.ensures,
            ),
            at.2,
          );
      tally = tally_silent _ _ _ _ _ _ _
          (Tallies-less old.seat (counted_with (Some c.args.pair) old.writer) c.finish.new.writer
          (rw c.in-Err-Stopped.field-0-is at c.in-Err-Stopped.ensures.count)) left.tally.seat (left.silent tt);
      silent = λ is. absurd is;
      moments = left.moments;
      stop = λ was. left.stop
          (kept_allowed _ (Some c.args.stop) (Some c.or.result)
          (drained_stop c.args.stop last c.or.result (writing_collects (Stopped last) own) c.or.ensures) was);
      fault = λ kept.
          let told = first_kept c.args.stop last c.or.result kept c.or.ensures in
          left.fault (λ is. kept (sym told ∙ is)) ∙ ap Some told;
      memory = left.memory;
      header = left.header;
    }
