use Rattle.std.proofs.Common.{◌≡◌, ◌≤◌, map, take}
use Rattle.std.specs.Vec.{vec_capacity, vec_len}
use Rattle.serve_core.specs.Retired.{stays}
use Rattle.serve_work.proofs.live.retirement.marks_of.Given as goal

abbrev pub invariant-loop-place : goal.invariant-loop-place
invariant-loop-place l = record {
  marks : l.marks.items ≡ map (λ rest. stays l.fn.ended.book.desk rest.number) (take l.place l.fn.ended.streams);
  len : vec_len l.marks ≡ l.place;
  room : l.fn.count ≤ vec_capacity l.marks;
}
