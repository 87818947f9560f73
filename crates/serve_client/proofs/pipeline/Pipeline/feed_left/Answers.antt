use Rattle.std.proofs.Common.{◌≡◌, ◌∙◌, true, false, ap, inr, sym}
use Rattle.serve_hub.specs.Seats.{StreamSeatValue}
use Rattle.serve_client.specs.declared.feeding.Fed.TheVariants as feds
use Rattle.serve_client.specs.declared.stop.Stop.TheVariants.{Torn}
use Rattle.serve_client.specs.ClientInside.{IsUseful, text_in}
use Rattle.serve_client.proofs.Allowing.{first_allowed}
use Rattle.serve_client.proofs.Tallying.{KeepsMoments-trans, Tallies-still, Tallies-trans, counted_later}
use Rattle.serve_client.proofs.Resting.{fed_from}
use Rattle.serve_client.proofs.Spoiling.{spoilt_from}
use Rattle.serve_client.proofs.Staying.{same_chain}
use Rattle.serve_client.proofs.Hands.{tally_silent}
use Rattle.serve_client.proofs.Keeping.{spoilt_later, stopped_spoilt}
use Rattle.serve_client.proofs.Stopping.{Feeds-closed, Serves-spoilt, Serves-torn, close_moments, drain_few, drain_none}
use Rattle.serve_client.proofs.Stopping.{drain_size, drain_writing, first_fault, moves_until, of_no_use}
use Rattle.serve_client.proofs.pipeline.Pipeline.feed_left.Goals as goal

pub feed-requires : goal.feed-requires
feed-requires g c =
    let can = c.requires.can in
    record {
      can = record {
        header = c.requires.header;
        is_open = can.is_open;
        offer = record { size = can.size; accounted = can.accounted; memory = can.memory };
      };
      frame = can.frame;
    }

pub returns-in-Paused : goal.returns-in-Paused
returns-in-Paused g c =
    let old = c.args.self.now in
    let new = c.feed.new.self in
    let kept = c.in-Paused.ensures.has_fed in
    record {
      answer = λ past o is counted at.
          fed_from (feds.Paused c.in-Paused.in_hand c.in-Paused.image) (text_in c.args.in_hand) past o old.reader new.reader
          old.seat new.seat old.writer new.writer at (λ before h. c.in-Paused.ensures.answer past before counted h);
      tally = kept.tally;
      silent = λ is. absurd is;
      moments = kept.moments;
      stop = λ was. tt;
      fault = tt;
      memory = record {
        chain = old.seat.chain;
        header = rw kept.header c.requires.header;
        size = kept.frame.1;
        memory = kept.memory;
        sized = kept.frame.0;
        left = kept.frame.2;
      };
      header = kept.header;
    }

-- an image couldn't be delivered

pub hold_left-requires : goal.hold_left-requires
hold_left-requires g c =
    let can = c.requires.can in
    let kept = c.feed.ensures.has_fed in
    let fed = c.in-Held.ensures.answer can.past can.before can.counted can.holds in
    record {
      header = rw (kept.header, same_chain c.args.self.now.seat c.feed.new.self.seat kept.tally.seat.spec) c.requires.header;
      can = record {
        is_open = fed.is_open;
        frame = tt;
        is_unclosed = ap (λ (s : StreamSeatValue). s.is_closed) fed.stays ∙ fed.passed.moved.seat_stays.is_closed
            ∙ can.accounted.is_open;
        spoilt = fed.spoilt;
      };
    }

pub returns-in-Held : goal.returns-in-Held
returns-in-Held g c =
    let old = c.args.self.now in
    let new = c.feed.new.self in
    let kept = c.in-Held.ensures.has_fed in
    let left = c.hold_left.ensures in
    record {
      answer = λ past o is counted at.
          let fed = fed_from (feds.Held c.in-Held.stop) (text_in c.args.in_hand) past o old.reader new.reader old.seat new.seat
          old.writer new.writer at (λ before h. c.in-Held.ensures.answer past before counted h) in
          left.answer past o is (counted_later past old.seat new.seat kept.tally.seat counted)
          (spoilt_from c.in-Held.stop o new.reader new.seat new.writer is fed);
      tally = tally_silent _ _ _ _ _ _ _ kept.tally left.tally.seat (left.silent tt);
      silent = λ is. absurd is;
      moments = KeepsMoments-trans _ _ _ _ kept.moments left.moments;
      stop = λ was. left.stop kept.stop;
      fault = tt;
      memory = left.memory;
      header = left.header ∙ kept.header;
    }

-- nothing more is written

pub discard_left-requires : goal.discard_left-requires
discard_left-requires g c = record {
  can = of_no_use c.in-Stopped.stop
      (λ useful. let both : true ≡ false = sym c.if-is_spoilt.true ∙ c.is_spoilt.ensures.useful.1 useful in absurd (cc));
}

pub returns-then-is_spoilt : goal.returns-then-is_spoilt
returns-then-is_spoilt g c =
    let gives = g.K.Clock.gives c.args.post.clock.now in
    let old = c.args.self.now in
    let new = c.feed.new.self in
    let stop = c.in-Stopped.stop in
    let kept = c.in-Stopped.ensures.has_fed in
    let close = c.close_torn-is_torn.ensures in
    let left = c.discard_left.ensures in
    record {
      answer = λ past o is counted at.
          let spoilt : IsUseful stop → ⊥ = λ useful.
          let both : true ≡ false = sym c.if-is_spoilt.true ∙ c.is_spoilt.ensures.useful.1 useful in absurd (cc) in
          let all = fed_from (feds.Stopped stop) (text_in c.args.in_hand) past o old.reader new.reader old.seat new.seat old.writer
          new.writer at (λ before h. c.in-Stopped.ensures.answer past before counted h) in
          left.answer past o is (counted_later past _ _ close.tally (counted_later past _ _ kept.tally.seat counted)) (
            (
              of_no_use stop spoilt,
              spoilt_later new.seat c.close_torn-is_torn.new.seat new.writer close.tally
                  (stopped_spoilt stop o.seat new.seat o.writer new.writer all.frames spoilt all.moved),
              Serves-spoilt past o.reader new.reader o.seat o.writer is.fresh.kept is.writing stop new.seat c.close_torn-is_torn.new.seat
                  new.writer spoilt all (ap (λ (s : StreamSeatValue). s.accepted) close.closed) close.tally,
            ),
            close.shut,
          );
      tally = tally_silent _ _ _ _ _ _ _ (Tallies-still _ _ _ _ _ kept.tally close.tally) left.tally.seat (left.silent tt);
      silent = λ is. absurd is;
      moments = KeepsMoments-trans gives _ _ _ kept.moments
          (KeepsMoments-trans gives _ _ _ (close_moments gives _ _ close.tally close.closed) left.moments);
      stop = λ was. left.stop kept.stop;
      fault = tt;
      memory = left.memory;
      header = left.header ∙ kept.header;
    }

-- the close was answered by what contradicts the seat

pub discard_left-requires-then-is_torn : goal.discard_left-requires-then-is_torn
discard_left-requires-then-is_torn g c =
    record { can = first_fault c.in-Stopped.stop Torn c.or.result c.or.ensures (λ useful. useful) }

pub returns-then-is_torn : goal.returns-then-is_torn
returns-then-is_torn g c =
    let gives = g.K.Clock.gives c.args.post.clock.now in
    let old = c.args.self.now in
    let new = c.feed.new.self in
    let stop = c.in-Stopped.stop in
    let kept = c.in-Stopped.ensures.has_fed in
    let close = c.close_torn-is_torn.ensures in
    let left = c.discard_left-then-is_torn.ensures in
    record {
      answer = λ past o is counted at.
          let all = fed_from (feds.Stopped stop) (text_in c.args.in_hand) past o old.reader new.reader old.seat new.seat old.writer
          new.writer at (λ before h. c.in-Stopped.ensures.answer past before counted h) in
          left.answer past o is (counted_later past _ _ close.tally (counted_later past _ _ kept.tally.seat counted)) (
            (
              first_fault stop Torn c.or.result c.or.ensures (λ useful. useful),
              inr (close.torn c.if-is_torn.true),
              Serves-torn past o.reader new.reader o.seat o.writer is.fresh.kept is.writing stop c.or.result new.seat
                  c.close_torn-is_torn.new.seat new.writer is.fresh.is_open (c.is_spoilt.ensures.useful.0 c.if-is_spoilt.false) all
                  (ap (λ (s : StreamSeatValue). s.accepted) close.closed) close.tally (close.torn c.if-is_torn.true) c.or.ensures,
            ),
            close.shut,
          );
      tally = tally_silent _ _ _ _ _ _ _ (Tallies-still _ _ _ _ _ kept.tally close.tally) left.tally.seat (left.silent tt);
      silent = λ is. absurd is;
      moments = KeepsMoments-trans gives _ _ _ kept.moments
          (KeepsMoments-trans gives _ _ _ (close_moments gives _ _ close.tally close.closed) left.moments);
      stop = λ was. left.stop (first_allowed gives stop Torn c.or.result kept.stop tt c.or.ensures);
      fault = tt;
      memory = left.memory;
      header = left.header ∙ kept.header;
    }

-- what is left is written

pub drain_left-requires : goal.drain_left-requires
drain_left-requires g c =
    let can = c.requires.can in
    let old = c.args.self.now in
    let new = c.feed.new.self in
    let stop = c.in-Stopped.stop in
    let fed = c.in-Stopped.ensures.answer can.past can.before can.counted can.holds in
    let useful = c.is_spoilt.ensures.useful.0 c.if-is_spoilt.false in
    let closed = c.close_torn-is_torn.new.seat in
    let close = c.close_torn-is_torn.ensures.closed in
    record {
      can = record {
        few = drain_few can.past stop can.before new.reader old.seat new.seat closed old.writer new.writer useful fed close can.accounted;
        writing = drain_writing can.past stop can.before new.reader old.seat new.seat closed old.writer new.writer useful fed close
            can.accounted;
        none = drain_none can.past stop can.before new.reader old.seat new.seat closed old.writer new.writer useful fed close can.accounted;
        size = drain_size can.past stop can.before new.reader old.seat new.seat closed old.writer new.writer useful fed close can.size;
      };
    }

pub returns-else-is_torn : goal.returns-else-is_torn
returns-else-is_torn g c =
    let gives = g.K.Clock.gives c.args.post.clock.now in
    let can = c.requires.can in
    let old = c.args.self.now in
    let new = c.feed.new.self in
    let stop = c.in-Stopped.stop in
    let kept = c.in-Stopped.ensures.has_fed in
    let useful = c.is_spoilt.ensures.useful.0 c.if-is_spoilt.false in
    let fed = c.in-Stopped.ensures.answer can.past can.before can.counted can.holds in
    let moved = moves_until stop old.seat new.seat old.writer new.writer fed.frames useful fed.moved in
    let close = c.close_torn-is_torn.ensures in
    let untorn = close.untorn c.if-is_torn.false in
    let left = c.drain_left.ensures in
    record {
      answer = λ past o is counted at.
          let all = fed_from (feds.Stopped stop) (text_in c.args.in_hand) past o old.reader new.reader old.seat new.seat old.writer
          new.writer at (λ before h. c.in-Stopped.ensures.answer past before counted h) in
          left.answer past o is (counted_later past _ _ close.tally (counted_later past _ _ kept.tally.seat counted)) (
            useful,
            Feeds-closed past stop o.reader new.reader o.seat new.seat c.close_torn-is_torn.new.seat o.writer new.writer
                is.fresh.is_open useful close.closed untorn close.tally all,
            close.shut,
          );
      tally = Tallies-trans _ _ _ _ _ _ (untorn ∙ moved.seat_stays.torn) (Tallies-still _ _ _ _ _ kept.tally close.tally) left.tally;
      silent = λ is. absurd is;
      moments = KeepsMoments-trans gives _ _ _ kept.moments
          (KeepsMoments-trans gives _ _ _ (close_moments gives _ _ close.tally close.closed) left.moments);
      stop = λ was. left.stop kept.stop;
      fault = tt;
      memory = left.memory;
      header = left.header ∙ kept.header;
    }
