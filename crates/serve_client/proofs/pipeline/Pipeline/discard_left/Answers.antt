use Rattle.std.proofs.Common.{ap, refl}
use Rattle.serve_hub.specs.Seats.{StreamSeatValue}
use Rattle.serve_client.proofs.Keeping.{closed_later, spoilt_later}
use Rattle.serve_client.proofs.Stopping.{Serves-later}
use Rattle.serve_client.proofs.Tallying.{Tallies-seat, none_given}
use Rattle.serve_client.proofs.pipeline.Pipeline.discard_left.Goals as goal

pub returns-then-discard : goal.returns-then-discard
returns-then-discard g c =
    let old = c.args.self.now in
    let on = c.discard.ensures in
    record {
      answer = λ past o is counted before. (
        (
          before.0.0,
          spoilt_later old.seat c.discard.new.seat old.writer on.tally before.0.1,
          Serves-later past c.args.stop o.reader old.reader o.seat old.seat c.discard.new.seat o.writer old.writer before.0.0 before.0.1
              on.tally (ap (λ (s : StreamSeatValue). s.accepted) on.stays) before.0.2,
        ),
        closed_later old.seat c.discard.new.seat on.tally before.1,
      );
      tally = Tallies-seat _ _ _ _ on.tally refl;
      silent = λ is. (refl, refl);
      moments = none_given _ _ _ on.tally on.stays;
      stop = λ was. was;
      fault = λ kept. refl;
      memory = tt;
      header = refl;
    }

pub returns-else-discard : goal.returns-else-discard
returns-else-discard g c =
    let old = c.args.self.now in
    let on = c.discard.ensures in
    record {
      answer = λ past o is counted before. (
        Serves-later past c.args.stop o.reader old.reader o.seat old.seat c.discard.new.seat o.writer old.writer before.0.0 before.0.1
            on.tally (ap (λ (s : StreamSeatValue). s.accepted) on.stays) before.0.2,
        on.none c.if-discard.false,
        closed_later old.seat c.discard.new.seat on.tally before.1,
      );
      tally = Tallies-seat _ _ _ _ on.tally refl;
      silent = λ is. (refl, refl);
      moments = none_given _ _ _ on.tally on.stays;
      stop = λ was. was;
      fault = λ kept. refl;
      memory = tt;
      header = refl;
    }
