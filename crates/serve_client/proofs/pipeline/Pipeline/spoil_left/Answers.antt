use Rattle.std.proofs.Common.{ap}
use Rattle.serve_hub.specs.Seats.{StreamSeatValue}
use Rattle.serve_client.proofs.Hands.{tally_silent}
use Rattle.serve_client.proofs.Keeping.{spoilt_later}
use Rattle.serve_client.proofs.Stopping.{Serves-later, close_moments}
use Rattle.serve_client.proofs.Tallying.{KeepsMoments-trans, Tallies-none, Tallies-still, counted_later}
use Rattle.serve_client.proofs.pipeline.Pipeline.spoil_left.Goals as goal

pub returns : goal.returns
returns g c =
    let old = c.args.self.now in
    let close = c.close_torn.ensures in
    let left = c.discard_left.ensures in
    record {
      answer = λ past o is counted before.
          left.answer past o is (counted_later past _ _ close.tally counted) (
            (
              before.0,
              spoilt_later old.seat c.close_torn.new.seat old.writer close.tally before.1,
              Serves-later past c.args.stop o.reader old.reader o.seat old.seat c.close_torn.new.seat o.writer old.writer before.0 before.1
                  close.tally (ap (λ (s : StreamSeatValue). s.accepted) close.closed) before.2,
            ),
            close.shut,
          );
      tally = tally_silent _ _ _ _ _ _ _ (Tallies-still _ _ _ _ _ (Tallies-none _ _) close.tally) left.tally.seat (left.silent tt);
      silent = left.silent;
      moments = KeepsMoments-trans _ _ _ _ (close_moments _ _ _ close.tally close.closed) left.moments;
      stop = left.stop;
      fault = left.fault;
      memory = left.memory;
      header = left.header;
    }
