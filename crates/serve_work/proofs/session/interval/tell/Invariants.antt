use Rattle.std.proofs.Common.{◌≡◌, ◌+◌, ◌≤◌, length}
use Rattle.std.specs.Vec.{vec_capacity, vec_len}
use Rattle.std.specs.Vec.Iter.{into_iter_items, into_iter_len}
use Rattle.serve_work.specs.SessionInside.{AreOver}
use Rattle.serve_work.proofs.SessionTurns.{Told}
use Rattle.serve_work.proofs.session.interval.tell.Given as goal

-- the first streams are told
abbrev pub invariant-loop-stream : goal.invariant-loop-stream
invariant-loop-stream g l = record {
  told : Told AreOver l.fn.streams.items (into_iter_items l.stream-iterator) l.served.items;
  left : length (into_iter_items l.stream-iterator) ≡ into_iter_len l.stream-iterator;
  room : vec_len l.served + into_iter_len l.stream-iterator ≤ vec_capacity l.served;
}
