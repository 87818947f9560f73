use Rattle.serve_client.specs.ClientInside.{GivesUp, TalliesSeat}
use Rattle.serve_client.proofs.delivery.discard.Given as goal

abbrev pub invariant-loop : goal.invariant-loop
invariant-loop g l = record {
  up : GivesUp l.initial.seat l.seat;
  tally : TalliesSeat l.initial.seat l.seat;
}
