use Rattle.std.proofs.Common.{[]}
use Rattle.serve_client.specs.ClientInside.{GivesUp, Moves, Tallies}
use Rattle.serve_client.proofs.delivery.drain.Given as goal

abbrev pub invariant-loop : goal.invariant-loop
invariant-loop g l = record {
  moved : Moves l.initial.seat l.seat l.initial.writer l.writer [];
  up : GivesUp l.initial.seat l.seat;
  tally : Tallies l.initial.seat l.seat l.initial.writer l.writer;
}
