use Rattle.std.proofs.Common.{◌≡◌, [], IfSome, ap, refl, ◌∙◌}
use Rattle.std.specs.Arc.{arc_value}
use Rattle.frame_view.specs.declared.frame.Frame.{Frame}
use Rattle.serve_core.specs.Streams.{IsImageOf}
use Rattle.serve_client.specs.ClientInside.{AreBuffersFor, image_in}
use Rattle.serve_client.specs.Hands.{counted_with}
use Rattle.serve_client.proofs.Allowing.{collection_allowed, offered_allowed}
use Rattle.serve_client.proofs.Staying.{GivesUp-at, GivesUp-trans, stays_chain, stays_closed}
use Rattle.serve_client.proofs.Tallying.{KeepsMoments-trans, Tallies-still, Tallies-trans, none_given, offers_at}
use Rattle.serve_client.proofs.Moving.{Accounted-later, Moves-at, Moves-none, Moves-trans, few_of, size_later}
use Rattle.serve_client.proofs.Offering.{collection_halted, fed_image_of, halted_sized, offer_stopped, offered_tally}
use Rattle.serve_client.proofs.Passing.{sized_still}
use Rattle.serve_client.proofs.Pipelines.{HasFed-none}
use Rattle.serve_client.proofs.pipeline.Pipeline.accept.Goals as goal

pub loop-init : goal.loop-init
loop-init g c = record {
  moved = Moves-none _ _ _ _ refl refl;
  up = refl;
  frame = refl;
  kept = HasFed-none _ _ c.requires.can.memory;
  reader = refl;
}

pub offer_once-requires-clause-open : goal.offer_once-requires-clause-open
offer_once-requires-clause-open g c =
    stays_closed c.args.self.now.seat c.loop.self.seat c.loop.invariant.moved.seat_stays ∙ c.requires.can.accounted.is_open

pub returns-in-Stopped-clause-answer : goal.returns-in-Stopped-clause-answer
returns-in-Stopped-clause-answer g c =
    let old = c.args.self.now in
    let at = c.loop.self in
    offer_stopped c.in-Stopped.stop _ _ old.seat at.seat c.offer_once.new.seat old.writer at.writer c.loop.invariant.moved
    c.loop.invariant.up c.loop.invariant.kept.tally.seat
    (rw c.loop.invariant.frame at c.in-Stopped.ensures.answer)

-- what is known where no image was collected behind the offer

pub returns-in-Accepted-clause-has_fed : goal.returns-in-Accepted-clause-has_fed
returns-in-Accepted-clause-has_fed g c =
    let gives = g.K.Clock.gives c.args.post.clock.now in
    let kept = c.loop.invariant.kept in
    record {
      tally = Tallies-still _ _ _ _ _ kept.tally (offered_tally _ _ _ _ _ c.offer_once.ensures.answer);
      moments = KeepsMoments-trans gives _ _ _ kept.moments
          (offers_at gives c.moment.result _ _ c.moment.ensures c.offer_once.ensures.moment);
      stop = tt;
      memory = c.take_image.ensures.sized _ kept.memory;
      frame = tt;
      header = kept.header;
    }

pub returns-in-Stopped-clause-has_fed : goal.returns-in-Stopped-clause-has_fed
returns-in-Stopped-clause-has_fed g c =
    let gives = g.K.Clock.gives c.args.post.clock.now in
    let kept = c.loop.invariant.kept in
    record {
      tally = Tallies-still _ _ _ _ _ kept.tally (offered_tally _ _ _ _ _ c.offer_once.ensures.answer);
      moments = KeepsMoments-trans gives _ _ _ kept.moments
          (offers_at gives c.moment.result _ _ c.moment.ensures c.offer_once.ensures.moment);
      stop = offered_allowed gives c.in-Stopped.stop c.moment.result _ _ _ c.moment.ensures c.in-Stopped.ensures.answer;
      memory = c.take_image.ensures.sized _ kept.memory;
      frame = tt;
      header = kept.header;
    }

pub returns-in-JournalFull-clause-has_fed : goal.returns-in-JournalFull-clause-has_fed
returns-in-JournalFull-clause-has_fed g c =
    let gives = g.K.Clock.gives c.args.post.clock.now in
    let so_far = c.loop.invariant in
    let kept = so_far.kept in
    let seat = c.args.self.now.seat in
    let taken : AreBuffersFor seat.chain c.take_image.new.self = c.take_image.ensures.sized _ kept.memory in
    let there : IfSome c.in-JournalFull.back.memory (IsImageOf seat.chain) = rw (stays_chain seat c.loop.self.seat so_far.moved.seat_stays) at
    c.in-JournalFull.ensures.answer.1 in
    record {
      tally = Tallies-still _ _ _ _ _ kept.tally (offered_tally _ _ _ _ _ c.offer_once.ensures.answer);
      moments = KeepsMoments-trans gives _ _ _ kept.moments
          (offers_at gives c.moment.result _ _ c.moment.ensures c.offer_once.ensures.moment);
      stop = tt;
      memory = c.keep_image.ensures.sized seat.chain taken there;
      frame = (
        ap (λ (f : Frame). f.geometry) (c.in-JournalFull.ensures.answer.0 ∙ so_far.frame) ∙ c.requires.frame,
        sized_still _ _ _ _ so_far.moved c.requires.can.size,
        tt,
      );
      header = kept.header;
    }

pub deliver-requires : goal.deliver-requires
deliver-requires g c =
    let moved = Moves-at c.args.self.now.seat c.loop.self.seat c.offer_once.new.seat c.args.self.now.writer c.loop.self.writer
    c.in-QueueFull.ensures.answer.2 c.loop.invariant.moved in
    let accounted = Accounted-later _ _ _ _ [] moved c.requires.can.accounted in
    record {
      can = record {
        few = few_of _ _ accounted;
        writing = accounted.writing;
        none = accounted.none;
        size = size_later _ _ _ _ [] moved c.requires.can.size;
      };
    }

pub returns-in-Err-clause-answer : goal.returns-in-Err-clause-answer
returns-in-Err-clause-answer g c =
    let so_far = c.loop.invariant in
    let seat = c.args.self.now.seat in
    let at = c.offer_once.new.seat in
    let moved = Moves-at seat c.loop.self.seat at c.args.self.now.writer c.loop.self.writer c.in-QueueFull.ensures.answer.2 so_far.moved in
    let up = GivesUp-at seat c.loop.self.seat at c.in-QueueFull.ensures.answer.2 so_far.up in
    rw c.of.ensures (collection_halted c.in-Err.halt c.in-QueueFull.back.frame (arc_value c.args.frame) seat at c.deliver.new.seat
    c.args.self.now.writer c.loop.self.writer c.deliver.new.writer
    (c.in-QueueFull.ensures.answer.0 ∙ so_far.frame) moved up c.in-Err.ensures.own c.in-Err.ensures.drained
    c.requires.can.accounted.is_open c.in-Err.ensures.answer c.deliver.ensures.stays)

pub returns-in-Err-clause-has_fed : goal.returns-in-Err-clause-has_fed
returns-in-Err-clause-has_fed g c =
    let gives = g.K.Clock.gives c.args.post.clock.now in
    let so_far = c.loop.invariant in
    let seat = c.args.self.now.seat in
    let at = c.offer_once.new.seat in
    let writer = c.args.self.now.writer in
    let moved = Moves-at seat c.loop.self.seat at writer c.loop.self.writer c.in-QueueFull.ensures.answer.2 so_far.moved in
    let counted = counted_with (image_in c.in-Err.halt) c.deliver.new.writer in
    let all = Tallies-trans seat at c.deliver.new.seat writer c.loop.self.writer counted moved.seat_stays.torn
    (Tallies-still seat c.loop.self.seat at writer c.loop.self.writer so_far.kept.tally
    (offered_tally _ _ _ _ _ c.offer_once.ensures.answer)) c.in-Err.ensures.tally in
    let taken : AreBuffersFor seat.chain c.take_image.new.self = c.take_image.ensures.sized _ so_far.kept.memory in
    let there : IfSome c.in-QueueFull.back.memory (IsImageOf seat.chain) = rw (stays_chain seat c.loop.self.seat so_far.moved.seat_stays) at
    c.in-QueueFull.ensures.answer.1 in
    rw c.of.ensures (record {
      tally = rw (fed_image_of c.in-Err.halt c.in-QueueFull.back.frame) all;
      moments = KeepsMoments-trans gives seat at c.deliver.new.seat
          (KeepsMoments-trans gives seat c.loop.self.seat at so_far.kept.moments
          (offers_at gives c.moment.result c.loop.self.seat at c.moment.ensures c.offer_once.ensures.moment))
          (none_given gives at c.deliver.new.seat c.deliver.ensures.tally.seat c.deliver.ensures.stays);
      stop = collection_allowed gives c.in-Err.halt c.in-QueueFull.back.frame c.in-Err.ensures.own;
      memory = c.keep_image-in-QueueFull.ensures.sized seat.chain taken there;
      frame = halted_sized c.in-Err.halt c.in-QueueFull.back.frame (arc_value c.args.frame) seat at c.deliver.new.seat
          writer c.loop.self.writer c.deliver.new.writer (c.in-QueueFull.ensures.answer.0 ∙ so_far.frame) moved
          c.in-Err.ensures.answer c.in-Err.ensures.left c.requires.frame c.requires.can.size;
      header = so_far.kept.header;
    })

pub loop-preserved : goal.loop-preserved
loop-preserved g c =
    let gives = g.K.Clock.gives c.args.post.clock.now in
    let so_far = c.loop.invariant in
    let seat = c.args.self.now.seat in
    let at = c.offer_once.new.seat in
    let writer = c.args.self.now.writer in
    let moved = Moves-at seat c.loop.self.seat at writer c.loop.self.writer c.in-QueueFull.ensures.answer.2 so_far.moved in
    let up = GivesUp-at seat c.loop.self.seat at c.in-QueueFull.ensures.answer.2 so_far.up in
    let chain : at.chain ≡ seat.chain = stays_chain seat at moved.seat_stays in
    let taken : AreBuffersFor seat.chain c.take_image.new.self = c.take_image.ensures.sized _ so_far.kept.memory in
    let there : IfSome c.in-QueueFull.back.memory (IsImageOf seat.chain) = rw (stays_chain seat c.loop.self.seat so_far.moved.seat_stays) at
    c.in-QueueFull.ensures.answer.1 in
    let kept = c.keep_image-in-QueueFull.ensures.sized seat.chain taken there in
    record {
      moved = Moves-trans seat at c.deliver.new.seat writer c.loop.self.writer c.deliver.new.writer [] [] moved c.in-Ok.ensures.answer;
      up = GivesUp-trans seat at c.deliver.new.seat up c.deliver.ensures.stays;
      frame = c.in-QueueFull.ensures.answer.0 ∙ so_far.frame;
      kept = record {
        tally = Tallies-trans seat at c.deliver.new.seat writer c.loop.self.writer c.deliver.new.writer moved.seat_stays.torn
            (Tallies-still seat c.loop.self.seat at writer c.loop.self.writer so_far.kept.tally
            (offered_tally _ _ _ _ _ c.offer_once.ensures.answer)) c.in-Ok.ensures.tally;
        moments = KeepsMoments-trans gives seat at c.deliver.new.seat
            (KeepsMoments-trans gives seat c.loop.self.seat at so_far.kept.moments
            (offers_at gives c.moment.result c.loop.self.seat at c.moment.ensures c.offer_once.ensures.moment))
            (none_given gives at c.deliver.new.seat c.deliver.ensures.tally.seat c.deliver.ensures.stays);
        stop = tt;
        memory = c.keep.ensures.sized seat.chain kept (rw chain at c.in-Ok.ensures.pair.source) (rw chain at c.in-Ok.ensures.pair.image);
        frame = tt;
        header = so_far.kept.header;
      };
      reader = so_far.reader;
    }
