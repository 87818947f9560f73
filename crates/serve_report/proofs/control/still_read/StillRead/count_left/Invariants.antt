use Rattle.std.proofs.Common.{◌≡◌, ◌≤◌, filter, length, take}
use Rattle.serve_report.specs.Places.{is_beside}
use Rattle.serve_report.proofs.control.still_read.StillRead.count_left.Given as goal

abbrev pub invariant-loop-left : goal.invariant-loop-left
invariant-loop-left l = record {
  count : l.count ≡ length (filter (is_beside l.fn.holders) (take l.left-index l.fn.self.inputs.items));
  few : l.count ≤ l.left-index;
}
