use Rattle.std.proofs.Common.{◌≡◌, ◌+◌, ◌≤◌, ◌++◌, length, map}
use Rattle.std.specs.Vec.{vec_capacity, vec_len}
use Rattle.std.specs.Vec.Iter.{into_iter_items, into_iter_len}
use Rattle.serve_work.specs.SessionInside.{AreUnread}
use Rattle.serve_work.specs.Sessions.{unread}
use Rattle.serve_work.proofs.session.turn.streams_of.Given as goal

-- the streams so far and those of what is left are all streams
abbrev pub invariant-loop-reader : goal.invariant-loop-reader
invariant-loop-reader g l =
    let of = unread g.W.Sink.contents g.W.Sink.failures in
    record {
      told : l.streams.items ++ map of (into_iter_items l.reader-iterator) ≡ map of l.fn.inputs.items;
      unread : AreUnread (into_iter_items l.reader-iterator);
      left : length (into_iter_items l.reader-iterator) ≡ into_iter_len l.reader-iterator;
      room : vec_len l.streams + into_iter_len l.reader-iterator ≤ vec_capacity l.streams;
    }
