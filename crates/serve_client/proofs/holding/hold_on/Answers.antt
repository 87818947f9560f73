use Rattle.std.proofs.Common.{◌∙◌, [], refl}
use Rattle.serve_client.proofs.Tallying.{KeepsMoments-same, KeepsMoments-trans, TalliesSeat-trans, counted_later, seat_same}
use Rattle.serve_client.proofs.OfferingOn.{OffersOn-behind}
use Rattle.serve_client.proofs.Passing.{HasPassed-behind, Passes-none}
use Rattle.serve_client.proofs.Staying.{same_chain}
use Rattle.serve_client.proofs.holding.hold_on.Goals as goal

pub loop-init : goal.loop-init
loop-init g c = record {
  passed = λ past writer counted. record {
    frames = [];
    passed = Passes-none c.args.reader.now c.args.seat.now writer;
    is_open = c.requires.can.is_open;
  };
  header = refl;
  is_open = c.requires.can.is_open;
  is_unclosed = c.requires.can.is_unclosed;
  tally = seat_same _ _ refl;
  moments = KeepsMoments-same _ _ _ refl;
}

pub hold_once-requires : goal.hold_once-requires
hold_once-requires g c =
    let inv = c.loop.invariant in
    record {
      can = record {
        header = rw (inv.header, same_chain c.args.seat.now c.loop.seat inv.tally.spec) c.requires.can.header;
        is_open = inv.is_open;
        is_unclosed = inv.is_unclosed;
      };
    }

pub loop-preserved : goal.loop-preserved
loop-preserved g c =
    let inv = c.loop.invariant in
    record {
      passed = λ past writer counted.
          let so_far = inv.passed past writer counted in
          HasPassed-behind c.args.reader.now c.loop.reader c.args.seat.now c.loop.seat writer writer so_far.frames so_far.passed
          c.hold_once.new.reader c.hold_once.new.seat writer
          (c.in-Ok.ensures.answer past writer (counted_later past c.args.seat.now c.loop.seat inv.tally counted));
      header = c.hold_once.ensures.header ∙ inv.header;
      is_open = c.in-Ok.ensures.open;
      is_unclosed = c.in-Ok.ensures.unclosed;
      tally = TalliesSeat-trans _ _ _ inv.tally c.hold_once.ensures.tally;
      moments = KeepsMoments-trans _ _ _ _ inv.moments c.hold_once.ensures.moments;
    }

pub returns-in-Err : goal.returns-in-Err
returns-in-Err g c =
    let inv = c.loop.invariant in
    record {
      answer = λ past writer counted.
          let so_far = inv.passed past writer counted in
          OffersOn-behind c.args.reader.now c.loop.reader c.hold_once.new.reader c.args.seat.now c.loop.seat c.hold_once.new.seat writer
          so_far.frames so_far.passed past c.in-Err.onward
          (c.in-Err.ensures.answer past writer (counted_later past c.args.seat.now c.loop.seat inv.tally counted));
      has_held = record {
        tally = TalliesSeat-trans _ _ _ inv.tally c.hold_once.ensures.tally;
        moments = KeepsMoments-trans _ _ _ _ inv.moments c.hold_once.ensures.moments;
        stop = c.in-Err.ensures.stop;
        frame = rw (same_chain c.args.seat.now c.loop.seat inv.tally.spec) at c.in-Err.ensures.frame;
        header = c.hold_once.ensures.header ∙ inv.header;
      };
    }
