use Rattle.std.proofs.Common.{◌≡◌, ◌+◌, ◌≤◌, ◌++◌, All, length, map, sum_by}
use Rattle.std.specs.Vec.{vec_capacity, vec_len}
use Rattle.std.specs.Vec.Iter.{into_iter_items, into_iter_len}
use Rattle.y4m_header.specs.declared.limits.TheConstants.{MOST_FRAMES}
use Rattle.serve_hub.specs.Seats.{collected_by, left_by}
use Rattle.serve_hub.proofs.shared.merge_streams.Given as goal

-- what the seats left so far, and the seats that are left
abbrev pub invariant-loop-seat : goal.invariant-loop-seat
invariant-loop-seat g l = record {
  parts : l.all.parts ≡ l.initial.all.parts + length l.yielded;
  amount : l.all.amount ≡ l.initial.all.amount + sum_by (λ s. length s.calls.list) l.yielded;
  rests : l.rests.items ++ map left_by (into_iter_items l.seat-iterator) ≡ map left_by l.fn.seats.items;
  left : length (into_iter_items l.seat-iterator) ≡ into_iter_len l.seat-iterator;
  room : vec_len l.rests + into_iter_len l.seat-iterator ≤ vec_capacity l.rests;
  collected_in_range : All (λ s. collected_by s ≤ MOST_FRAMES) (into_iter_items l.seat-iterator);
}
