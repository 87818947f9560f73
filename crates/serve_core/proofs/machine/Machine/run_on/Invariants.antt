use Rattle.std.proofs.Common.{◌≡◌, ◌+◌, ◌≤◌, length, map}
use Rattle.std.specs.Vec.{vec_capacity, vec_len}
use Rattle.std.specs.Vec.Iter.{into_iter_items, into_iter_len}
use Rattle.serve_core.specs.Events.{Start, told}
use Rattle.serve_core.specs.Frames.{measures, is_image}
use Rattle.serve_core.specs.Leads.{Leads}
use Rattle.serve_core.specs.Seen.{heard, seen}
use Rattle.serve_core.proofs.machine.Machine.run_on.Given as goal

abbrev pub invariant-loop-event : goal.invariant-loop-event
invariant-loop-event l = record {
  count : length l.replies.items ≡ length l.yielded;
  left : length (into_iter_items l.event-iterator) ≡ into_iter_len l.event-iterator;
  room : vec_len l.replies + into_iter_len l.event-iterator ≤ vec_capacity l.replies;
  leads : Leads measures is_image l.fn.self (told Start (map seen l.yielded) (map heard l.replies.items)) l.self;
}
