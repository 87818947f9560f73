use Rattle.std.proofs.Common.{◌≡◌, ◌≤◌, sum_by, take}
use Rattle.serve_hub.specs.Books.{one_not_over}
use Rattle.serve_hub.proofs.hub_load.count_not_over.Given as goal

abbrev pub invariant-loop-stream : goal.invariant-loop-stream
invariant-loop-stream l = record {
  sum : l.count ≡ sum_by one_not_over (take l.stream l.desk.streams);
  few : l.count ≤ l.stream;
}
