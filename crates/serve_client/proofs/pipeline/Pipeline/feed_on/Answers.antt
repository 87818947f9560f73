use Rattle.std.proofs.Common.{[], None, Some}
use Rattle.serve_client.proofs.Tallying.{counted_later}
use Rattle.serve_client.proofs.Passing.{FeedsOn-behind, HasPassed-behind, Passes-none}
use Rattle.serve_client.proofs.Pipelines.{CanReadOn-later, HasFed-none, HasFed-trans}
use Rattle.serve_client.proofs.pipeline.Pipeline.feed_on.Goals as goal

pub loop-init : goal.loop-init
loop-init g c =
    let old = c.args.self.now in
    record {
      passed = record { frames = []; passed = Passes-none old.reader old.seat old.writer; is_open = c.requires.can.is_open };
      kept = HasFed-none _ _ c.requires.can.offer.memory;
    }

pub feed_once-requires : goal.feed_once-requires
feed_once-requires g c =
    let so_far = c.loop.invariant in
    record {
      can = CanReadOn-later c.args.self.now c.loop.self (g.K.Clock.gives c.args.post.clock.now) so_far.passed.frames
          so_far.passed.passed.moved so_far.kept so_far.passed.is_open c.requires.can;
    }

pub loop-preserved : goal.loop-preserved
loop-preserved g c =
    let so_far = c.loop.invariant in
    let old = c.args.self.now in
    let at = c.loop.self in
    let new = c.feed_once.new.self in
    record {
      passed = HasPassed-behind old.reader at.reader old.seat at.seat old.writer at.writer so_far.passed.frames so_far.passed.passed
          new.reader new.seat new.writer c.in-Ok.ensures.passed;
      kept = HasFed-trans old at (g.K.Clock.gives c.args.post.clock.now) None new so_far.passed.passed.moved.seat_stays so_far.kept
          c.in-Ok.ensures.has_fed;
    }

pub returns-in-Err : goal.returns-in-Err
returns-in-Err g c =
    let so_far = c.loop.invariant in
    let old = c.args.self.now in
    let at = c.loop.self in
    let new = c.feed_once.new.self in
    record {
      answer = λ past counted.
          FeedsOn-behind old.reader at.reader old.seat at.seat old.writer at.writer so_far.passed.frames so_far.passed.passed past
          c.in-Err.fed new.reader new.seat new.writer
          (c.in-Err.ensures.answer past (counted_later past old.seat at.seat so_far.kept.tally.seat counted));
      has_fed = HasFed-trans old at (g.K.Clock.gives c.args.post.clock.now) (Some c.in-Err.fed) new
          so_far.passed.passed.moved.seat_stays so_far.kept c.in-Err.ensures.has_fed;
    }
