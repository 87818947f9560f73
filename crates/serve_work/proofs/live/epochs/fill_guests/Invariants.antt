use Rattle.std.proofs.Common.{◌≡◌, ◌+◌, ◌≤◌, ◌++◌, length}
use Rattle.std.specs.Iterator.Adapters.{zip_first, zip_second}
use Rattle.std.specs.Vec.{vec_capacity, vec_len}
use Rattle.std.specs.Vec.Iter.{into_iter_items, into_iter_len}
use Rattle.serve_work.specs.LiveInside.{guests_of}
use Rattle.serve_work.proofs.live.epochs.fill_guests.Given as goal

-- the streams so far and those that are left are all
abbrev pub invariant-loop-ticket : goal.invariant-loop-ticket
invariant-loop-ticket g l =
    let tickets = into_iter_items (zip_first l.ticket-iterator) in
    let streams = into_iter_items (zip_second l.ticket-iterator) in
    record {
      told : l.guests.items ++ guests_of tickets streams ≡ guests_of l.fn.tickets.items l.fn.streams.items;
      tickets_left : length tickets ≡ into_iter_len (zip_first l.ticket-iterator);
      streams_left : length streams ≡ into_iter_len (zip_second l.ticket-iterator);
      room : vec_len l.guests + into_iter_len (zip_second l.ticket-iterator) ≤ vec_capacity l.guests;
      few : vec_len l.guests + into_iter_len (zip_second l.ticket-iterator) ≤ vec_len l.fn.streams;
      same_room : vec_capacity l.guests ≡ vec_capacity l.initial.guests;
    }
