use Rattle.std.proofs.Common.{◌≡◌, ◌≤◌, ℕ, ap, arith, length, subst, sym, vec_capacity, vec_len}
use Rattle.std.specs.List.{AllByRecursion}
use Rattle.serve_hub.specs.Seats.{HubValue, opened_rests}
use Rattle.serve_work.specs.Intervals.{HasNoCalls, IsRoomFor}
use Rattle.serve_work.specs.Sessions.{unread}
use Rattle.serve_work.proofs.Intervals.{begins_at, is_beginning, new_seats, no_entry}
use Rattle.serve_work.proofs.SessionTurns.{are_unread, same_length}
use Rattle.serve_work.proofs.session.opening.open_first.Goals as goal

pub streams_of-requires : goal.streams_of-requires
streams_of-requires g c = record { unread = are_unread c.args.setup.streams c.args.inputs.items c.requires.inputs }

pub returns-in-Ok-streams_of-clause-can_begin : goal.returns-in-Ok-streams_of-clause-can_begin
returns-in-Ok-streams_of-clause-can_begin g c =
    let contents = g.W.Sink.contents in
    let failures = g.W.Sink.failures in
    let specs = c.args.setup.streams in
    let inputs = c.args.inputs.items in
    let streams = c.in-Ok-streams_of.streams in
    let count : c.len.result ≡ vec_len streams = omega (
      arith,
      c.len.ensures,
      c.args.inputs.ok.0,
      ap length c.in-Ok-streams_of.ensures.streams,
      same_length (unread contents failures) inputs,
      streams.ok.0,
    ) in
    let places : c.len.result ≤ vec_capacity c.in-Ok.lists.2 = c.in-Ok.ensures.places in
    record {
      begun = is_beginning contents failures c.args.limit c.args.setup inputs c.requires.inputs c.in-Ok.ensures.limit;
      opens = sym c.requires.blank.opens;
      past = no_entry _ _ c.requires.blank.opens;
      stand = begins_at contents failures c.args.limit specs inputs c.in-Ok.lists.0.1.items c.in-Ok-streams_of.streams.items
          c.requires.inputs c.in-Ok.ensures.seats c.in-Ok-streams_of.ensures.streams;
      room = subst (λ (n : ℕ). IsRoomFor n c.in-Ok.lists.1) count c.in-Ok.ensures.room;
      untold = c.in-Ok.ensures.untold;
      no_calls = subst (AllByRecursion HasNoCalls) (sym c.in-Ok.ensures.seats)
          (new_seats c.args.limit (opened_rests 0 specs));
      places = omega (arith, count, places);
      limit = ap (λ (hub : HubValue). hub.limit) c.in-Ok.ensures.hub;
    }
