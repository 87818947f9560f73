use Rattle.std.proofs.Common.{◌≡◌, ◌≤◌, filter, length, take}
use Rattle.serve_core.specs.Retired.{stays}
use Rattle.serve_hub.proofs.ended.count_staying.Given as goal

abbrev pub invariant-loop-rest : goal.invariant-loop-rest
invariant-loop-rest l = record {
  count : l.count ≡ length (filter (λ rest. stays l.fn.desk rest.number) (take l.rest-index l.fn.rests));
  few : l.count ≤ l.rest-index;
}
