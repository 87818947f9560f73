use Rattle.std.proofs.Common.{◌≡◌, []}
use Rattle.serve_client.specs.ClientInside.{AreBuffersFor, GivesUp, Moves, Tallies}
use Rattle.serve_client.proofs.pipeline.Pipeline.deliver_ready.Given as goal

abbrev pub invariant-loop : goal.invariant-loop
invariant-loop g l = record {
  moved : Moves l.initial.self.seat l.self.seat l.initial.self.writer l.self.writer [];
  up : GivesUp l.initial.self.seat l.self.seat;
  tally : Tallies l.initial.self.seat l.self.seat l.initial.self.writer l.self.writer;
  reader : l.self.reader ≡ l.initial.self.reader;
  buffers : AreBuffersFor l.initial.self.seat.chain l.self.buffers;
}
