use Rattle.std.proofs.Common.{◌≡◌, None, []}
use Rattle.std.specs.Arc.{arc_value}
use Rattle.serve_client.specs.ClientInside.{GivesUp, Moves}
use Rattle.serve_client.specs.Pipelines.{HasFed}
use Rattle.serve_client.proofs.pipeline.Pipeline.accept.Given as goal

abbrev pub invariant-loop : goal.invariant-loop
invariant-loop g l = record {
  moved : Moves l.initial.self.seat l.self.seat l.initial.self.writer l.self.writer [];
  up : GivesUp l.initial.self.seat l.self.seat;
  frame : arc_value l.frame ≡ arc_value l.initial.frame;
  kept : HasFed (g.K.Clock.gives l.fn.post.clock.now) None l.initial.self l.self;
  reader : l.self.reader ≡ l.initial.self.reader;
}
