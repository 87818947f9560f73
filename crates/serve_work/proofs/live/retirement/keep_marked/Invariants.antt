use Rattle.std.proofs.Common.{◌≡◌, ◌+◌, ◌≤◌, ◌++◌, length}
use Rattle.std.specs.Iterator.Adapters.{zip_first, zip_second}
use Rattle.std.specs.Vec.{vec_capacity, vec_len}
use Rattle.std.specs.Vec.Iter.{into_iter_items, into_iter_len}
use Rattle.serve_work.specs.LiveInside.{at_marks}
use Rattle.serve_work.proofs.live.retirement.keep_marked.Given as goal

-- those that are kept, and those that are left
abbrev pub invariant-loop-mark : goal.invariant-loop-mark
invariant-loop-mark g l =
    let marks = into_iter_items (zip_first l.mark-iterator) in
    let guests = into_iter_items (zip_second l.mark-iterator) in
    record {
      kept : l.kept.items ++ at_marks marks guests ≡ at_marks l.fn.marks.items l.fn.guests.items;
      marks_left : length marks ≡ into_iter_len (zip_first l.mark-iterator);
      guests_left : length guests ≡ into_iter_len (zip_second l.mark-iterator);
      room : vec_len l.kept + into_iter_len (zip_second l.mark-iterator) ≤ vec_capacity l.kept;
    }
