use Rattle.std.proofs.Common.{◌∙◌, refl}
use Rattle.serve_client.specs.ClientInside.{text_in}
use Rattle.serve_client.proofs.Hands.{tally_silent}
use Rattle.serve_client.proofs.Tallying.{KeepsMoments-trans, Tallies-seat, counted_later}
use Rattle.serve_client.proofs.Spoiling.{held_spoilt, held_told, spoilt_offered, spoilt_on, spoilt_until}
use Rattle.serve_client.proofs.Stopping.{of_no_use}
use Rattle.serve_client.proofs.pipeline.Pipeline.hold_left.Goals as goal

pub hold-requires : goal.hold-requires
hold-requires g c =
    let can = c.requires.can in
    record {
      can = record { header = c.requires.header; is_open = can.is_open; is_unclosed = can.is_unclosed };
      frame = can.frame;
    }

pub returns-in-Paused : goal.returns-in-Paused
returns-in-Paused g c =
    let old = c.args.self.now in
    let kept = c.in-Paused.ensures.has_held in
    record {
      answer = λ past o is counted at.
          spoilt_on c.args.held o old.reader old.seat old.writer (text_in c.args.in_hand) (text_in c.in-Paused.in_hand) at
          c.hold.new.reader c.hold.new.seat (c.in-Paused.ensures.answer past at.before old.writer counted at.holds);
      tally = Tallies-seat _ _ _ _ kept.tally refl;
      silent = λ is. (refl, refl);
      moments = kept.moments;
      stop = λ was. was;
      fault = λ kept. refl;
      memory = record { chain = old.seat.chain; header = rw kept.header c.requires.header; sized = kept.frame };
      header = kept.header;
    }

pub spoil_left-requires : goal.spoil_left-requires
spoil_left-requires g c = record { can = of_no_use c.args.held c.requires.can.spoilt }

pub returns-in-QueueFull : goal.returns-in-QueueFull
returns-in-QueueFull g c =
    let old = c.args.self.now in
    let kept = c.hold.ensures.has_held in
    let left = c.spoil_left.ensures in
    record {
      answer = λ past o is counted at.
          let on = c.in-QueueFull.ensures.answer past at.before old.writer counted at.holds in
          let held = spoilt_on c.args.held o old.reader old.seat old.writer (text_in c.args.in_hand) _ at c.hold.new.reader
          c.hold.new.seat on.1 in
          left.answer past o is (counted_later past _ _ kept.tally counted) (
            of_no_use c.args.held c.requires.can.spoilt,
            held_spoilt c.args.held o c.hold.new.reader c.hold.new.seat old.writer _ held,
            held_told c.args.held o c.hold.new.reader c.hold.new.seat old.writer on.0 past held,
          );
      tally = tally_silent _ _ _ _ _ _ _ (Tallies-seat _ _ _ _ kept.tally refl) left.tally.seat (left.silent tt);
      silent = λ is. left.silent tt;
      moments = KeepsMoments-trans _ _ _ _ kept.moments left.moments;
      stop = left.stop;
      fault = left.fault;
      memory = left.memory;
      header = left.header ∙ kept.header;
    }

pub spoil_left-requires-in-Stopped : goal.spoil_left-requires-in-Stopped
spoil_left-requires-in-Stopped g c = record { can = of_no_use c.args.held c.requires.can.spoilt }

pub returns-in-Stopped : goal.returns-in-Stopped
returns-in-Stopped g c =
    let old = c.args.self.now in
    let kept = c.in-Stopped.ensures.has_held in
    let left = c.spoil_left-in-Stopped.ensures in
    record {
      answer = λ past o is counted at.
          let on = c.in-Stopped.ensures.answer past at.before old.writer counted at.holds in
          left.answer past o is (counted_later past _ _ kept.tally counted) (
            of_no_use c.args.held c.requires.can.spoilt,
            spoilt_offered c.in-Stopped._later old.seat c.hold.new.seat old.writer on.1.frames on.0 on.1.moved
                (held_spoilt c.args.held o old.reader old.seat old.writer (text_in c.args.in_hand) at),
            spoilt_until c.args.held o old.reader old.seat old.writer (text_in c.args.in_hand) at past c.in-Stopped._later
                c.hold.new.reader c.hold.new.seat on.0 on.1,
          );
      tally = tally_silent _ _ _ _ _ _ _ (Tallies-seat _ _ _ _ kept.tally refl) left.tally.seat (left.silent tt);
      silent = λ is. left.silent tt;
      moments = KeepsMoments-trans _ _ _ _ kept.moments left.moments;
      stop = left.stop;
      fault = left.fault;
      memory = left.memory;
      header = left.header ∙ kept.header;
    }
