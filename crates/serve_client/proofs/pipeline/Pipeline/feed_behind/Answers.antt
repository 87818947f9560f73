use Rattle.std.proofs.Common.{[], Some, refl}
use Rattle.serve_client.specs.declared.stop.Halt.TheVariants.{Stopped}
use Rattle.serve_client.specs.ClientInside.{HasInHand, IsOfWriting, Moves, StopsWith, text_in}
use Rattle.serve_client.specs.Hands.{Behind, counted_with, with_kept}
use Rattle.serve_client.proofs.Allowing.{delivery_allowed}
use Rattle.serve_client.proofs.Finishing.{full_left, writing_delivers}
use Rattle.serve_client.proofs.Hands.{Behind-map, GivesUp-kept, Tallies-less, tally_silent}
use Rattle.serve_client.proofs.Moving.{Accounted-later, size_later}
use Rattle.serve_client.proofs.Passing.{sized_behind}
use Rattle.serve_client.proofs.Resting.{in_hand_moved}
use Rattle.serve_client.proofs.Spoiling.{spoilt_behind}
use Rattle.serve_client.proofs.Tallying.{KeepsMoments-same, Tallies-trans}
use Rattle.serve_client.proofs.pipeline.Pipeline.feed_behind.Goals as goal

pub feed_left-requires : goal.feed_left-requires
feed_left-requires g c =
    let can = c.requires.can in
    let seat = c.args.self.now.seat in
    let moved = c.in-Ok.ensures.answer seat can.before can.begun in
    record {
      header = c.requires.header;
      can = record {
        is_open = can.can.is_open;
        accounted = Accounted-later _ _ _ _ [] moved can.can.accounted;
        size = size_later _ _ _ _ [] moved can.can.size;
        memory = c.keep.ensures.sized seat.chain can.can.memory (rw c.in-Ok.ensures.returns_pair can.sized.source)
            (rw c.in-Ok.ensures.returns_pair can.sized.image);
        frame = can.can.frame;
        past = can.can.past;
        counted = can.can.counted;
        before = can.can.before;
        holds = can.can.holds;
      };
    }

pub returns-in-Ok : goal.returns-in-Ok
returns-in-Ok g c =
    let old = c.args.self.now in
    let left = c.feed_left.ensures in
    record {
      answer = λ past o is counted at.
          left.answer past o is counted
          (in_hand_moved (text_in c.args.in_hand) o.reader old.reader o.seat (with_kept c.args.pair old.seat) old.seat o.writer at.0
          c.finish.new.writer at.2 (c.in-Ok.ensures.answer old.seat at.0 at.1));
      tally = Tallies-trans _ _ _ _ _ _ refl
          (Tallies-less old.seat (counted_with (Some c.args.pair) old.writer) c.finish.new.writer c.in-Ok.ensures.count) left.tally;
      silent = λ is. absurd is;
      moments = left.moments;
      stop = left.stop;
      fault = tt;
      memory = left.memory;
      header = left.header;
    }

pub returns-in-Err-Full : goal.returns-in-Err-Full
returns-in-Err-Full g c =
    let can = c.requires.can in
    let old = c.args.self.now in
    let kept = with_kept c.args.pair old.seat in
    let hand = text_in c.args.in_hand in
    let image = c.in-Err-Full.image in
    let moved : Behind image old.seat c.finish.new.writer (λ s w. Moves kept s can.before w []) =
    rw c.in-Err-Full.field-0-is at (c.in-Err-Full.ensures.answer old.seat can.before can.begun) in
    record {
      answer = λ past o is counted at.
          Behind-map image old.seat c.finish.new.writer (λ s w. Moves kept s at.0 w [])
          (λ s w. HasInHand o.reader old.reader o.seat s o.writer w hand)
          (λ s w stood moved. in_hand_moved hand o.reader old.reader o.seat kept s o.writer at.0 w at.2 moved)
          (rw c.in-Err-Full.field-0-is at (c.in-Err-Full.ensures.answer old.seat at.0 at.1));
      tally = Tallies-less old.seat (counted_with (Some c.args.pair) old.writer) (counted_with image c.finish.new.writer)
          (rw c.in-Err-Full.field-0-is at c.in-Err-Full.ensures.count);
      silent = λ is. absurd is;
      moments = KeepsMoments-same _ _ _ refl;
      stop = λ was. was;
      fault = tt;
      memory = record {
        chain = old.seat.chain;
        header = c.requires.header;
        size = sized_behind image kept old.seat can.before c.finish.new.writer moved can.can.size;
        memory = can.can.memory;
        sized = can.can.frame;
        left = full_left image c.args.pair old.seat.chain c.finish.new.writer
            (rw c.in-Err-Full.field-0-is at c.in-Err-Full.ensures.left) can.sized;
      };
      header = refl;
    }

pub hold_left-requires : goal.hold_left-requires
hold_left-requires g c =
    let can = c.requires.can.can in
    let stop = c.in-Err-Stopped.stop in
    let own : IsOfWriting (Stopped stop) = rw c.in-Err-Stopped.field-0-is at c.in-Err-Stopped.ensures.own in
    record {
      header = c.requires.header;
      can = record {
        is_open = can.is_open;
        frame = can.frame;
        is_unclosed = can.accounted.is_open;
        spoilt = writing_delivers (Stopped stop) own;
      };
    }

pub returns-in-Err-Stopped : goal.returns-in-Err-Stopped
returns-in-Err-Stopped g c =
    let old = c.args.self.now in
    let kept = with_kept c.args.pair old.seat in
    let stop = c.in-Err-Stopped.stop in
    let left = c.hold_left.ensures in
    let own : IsOfWriting (Stopped stop) = rw c.in-Err-Stopped.field-0-is at c.in-Err-Stopped.ensures.own in
    record {
      answer = λ past o is counted at.
          let stops : StopsWith stop kept old.seat at.0 c.finish.new.writer [] = rw c.in-Err-Stopped.field-0-is at
          (c.in-Err-Stopped.ensures.answer old.seat at.0 at.1) in
          left.answer past o is counted
          (spoilt_behind stop o (text_in c.args.in_hand) old.reader kept old.seat at.0 c.finish.new.writer is at.2 stops
          (GivesUp-kept c.args.pair old.seat) (writing_delivers (Stopped stop) own));
      tally = tally_silent _ _ _ _ _ _ _
          (Tallies-less old.seat (counted_with (Some c.args.pair) old.writer) c.finish.new.writer
          (rw c.in-Err-Stopped.field-0-is at c.in-Err-Stopped.ensures.count)) left.tally.seat (left.silent tt);
      silent = λ is. absurd is;
      moments = left.moments;
      stop = λ was. left.stop
          (delivery_allowed (g.K.Clock.gives c.args.post.clock.now) (Stopped stop) (writing_delivers (Stopped stop) own));
      fault = tt;
      memory = left.memory;
      header = left.header;
    }
