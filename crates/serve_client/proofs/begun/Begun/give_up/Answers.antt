use Rattle.std.proofs.Common.{Some, subst, sym}
use Rattle.serve_client.specs.declared.stop.Stop.{Stop}
use Rattle.serve_client.specs.Clients.{StreamStopsAt}
use Rattle.serve_client.specs.ClientInside.{IsFirst, IsNoNewEnd}
use Rattle.serve_client.specs.Sends.{TellsKept}
use Rattle.serve_client.specs.Hands.{CountsImage, EndsImage}
use Rattle.serve_client.specs.Rests.{BegunValue, IsBegun, Outset, course_image, course_of, course_stop}
use Rattle.serve_client.proofs.Allowing.{flushed_stop, given_up_kept, given_up_stop}
use Rattle.serve_client.proofs.Ending.{Ends-served, stream_flushed, told_kept}
use Rattle.serve_client.proofs.GivingUp.{given_up, tallied_ended}
use Rattle.serve_client.proofs.Resting.{outset_of}
use Rattle.serve_client.proofs.begun.Begun.give_up.Goals as goal

pub returns : goal.returns
returns g c =
    let inside = c.self.inside in
    let course = course_of inside.course in
    let ended = c.end_image-ended.result in
    let now = subst (λ (kept : Stop). IsFirst kept ended c.or.result) c.into_kept-kept.ensures.stop c.or.ensures in
    record {
      ends = λ start past seat at.
          let writer = c.end_image-ended.new.writer in
          let b = subst (IsBegun start past seat) (sym c.self.view_is) at in
          let o : Outset = record { reader = start.reader; seat = start.seat; writer = b.opened } in
          let e = subst (λ image. EndsImage image seat.chain ended inside.writer writer) c.into_kept-kept.ensures.image
          (c.end_image-ended.ensures.ended seat.chain) in
          let serves = given_up past o (outset_of start b.shown b.opened b.first b.is_opened) inside.reader course seat inside.writer writer ended
          c.or.result c.or-stop.result c.into_source.ensures.ahead b.tally.closes b.at e now c.or-stop.ensures in
          let tally = tallied_ended course past start.seat o inside.reader seat ended inside.writer writer b.at e b.tally in
          let finish = c.finish-writer.ensures in
          Ends-served start _ b.shown b.opened b.header b.is_opened StreamStopsAt past c.or-stop.result inside.reader seat
          writer _ (stream_flushed c.or-stop.result c.finish-writer.result.1) serves b.first tally
          (record {
            kept = finish.keeps_contents;
            flushed = finish.flushed;
            closed = finish.closed;
            fault = finish.fault;
            failed = finish.failed;
            told = finish.failures;
          })
          c.stop_after_flush.ensures b.accepted c.frames-delivered.ensures c.into_source.ensures.remaining c.into_source.ensures.failures;
      stop =
          subst (λ (b : BegunValue). IsNoNewEnd (course_stop b.course) (Some c.stop_after_flush.result)) c.self.view_is
          (λ is. given_up_stop course ended c.or.result c.or-stop.result c.end_image-ended.ensures.own now c.or-stop.ensures
          (flushed_stop c.or-stop.result c.finish-writer.result.1 c.stop_after_flush.result c.stop_after_flush.ensures is));
      kept =
          let old = inside.writer.frames in
          let new = c.end_image-ended.new.writer.frames in
          let counts = subst (λ image. CountsImage image ended old new) c.into_kept-kept.ensures.image c.end_image-ended.ensures.counts in
          let kept = told_kept (course_image course) (course_stop course) old new c.or-stop.result c.finish-writer.result.1
          c.stop_after_flush.result c.stop_after_flush.ensures
          (given_up_kept course ended c.or.result c.or-stop.result old new counts now c.or-stop.ensures) in
          subst (λ (b : BegunValue). TellsKept (course_image b.course) (course_stop b.course) b.writer.frames c.stop_after_flush.result
          c.frames-delivered.result) c.self.view_is
          (subst (TellsKept (course_image course) (course_stop course) old c.stop_after_flush.result) (sym c.frames-delivered.ensures) kept);
      own = λ over. absurd (cc);
    }
