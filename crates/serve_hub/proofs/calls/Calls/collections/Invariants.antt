use Rattle.std.proofs.Common.{◌≡◌, ◌≤◌, sum_by, take}
use Rattle.serve_hub.specs.Seats.{one_collection}
use Rattle.serve_hub.proofs.calls.Calls.collections.Given as goal

abbrev pub invariant-loop-call : goal.invariant-loop-call
invariant-loop-call g l = record {
  sum : l.sum ≡ sum_by one_collection (take l.call-index l.call-items);
  few : l.sum ≤ l.call-index;
}
