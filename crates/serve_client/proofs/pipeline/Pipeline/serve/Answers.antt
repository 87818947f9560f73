use Rattle.std.proofs.Common.{Option, None, subst, sym}
use Rattle.serve_client.specs.declared.course.Course.{Course}
use Rattle.serve_client.specs.Pipelines.{Follows}
use Rattle.serve_client.proofs.pipeline.Pipeline.serve.Goals as goal

pub returns-in-None : goal.returns-in-None
returns-in-None g c =
    let gives = g.K.Clock.gives c.args.post.clock.now in
    let new = c.feed_left.new.self in
    let left = c.feed_left.ensures in
    let none : Follows gives None c.args.self.now new c.feed_left.result = record {
      answer = left.answer;
      tally = left.tally;
      silent = left.silent;
      moments = left.moments;
      stop = left.stop;
      fault = left.fault;
      memory = left.memory;
      header = left.header;
    } in
    subst (λ (course : Option Course). Follows gives course c.args.self.now new c.feed_left.result) (sym c.in-None.is) none
