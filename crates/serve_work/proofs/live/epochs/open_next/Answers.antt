use Rattle.std.specs.List.{AllByRecursion}
use Rattle.std.proofs.Common.{◌≡◌, ◌∙◌, List, ap, arith, inr, length, map, subst, sym}
use Rattle.serve_hub.specs.Seats.{HubValue, StreamSeatValue, left_by, seat_over}
use Rattle.serve_work.specs.Intervals.{HasNoCalls}
use Rattle.serve_work.specs.LiveInside.{AllAt, IsGuestIn, helds_of}
use Rattle.serve_work.proofs.Living.{all_ready, guests_in, none_called, seated_of, tickets_are}
use Rattle.serve_work.proofs.SessionTurns.{same_length}
use Rattle.serve_work.proofs.live.epochs.open_next.Goals as goal

pub seat_all-requires : goal.seat_all-requires
seat_all-requires g c =
    let terms = g.D.Chronicle.terms in
    let times = g.D.Chronicle.times in
    let es = c.requires.guests.0 in
    let ws = c.requires.guests.1 in
    let at = c.requires.guests.2 in
    let size = c.limit-limit.result in
    let desk = c.args.interval.ended.book.desk in
    let guests = c.args.interval.guests.items in
    let seats = c.in-Ok-reopen.next.streams.items in
    let are : seats ≡ map (seat_over size) (map left_by at.seats) =
    c.in-Ok-reopen.ensures.streams ∙ ap (map (seat_over size)) at.rests in
    let inside = subst (λ (these : List StreamSeatValue). AllAt (IsGuestIn terms times es desk) guests these ws) (sym are)
    (guests_in terms times es desk size guests at.seats ws at.each) in
    record {
      places = c.in-Ok.ensures.places;
      empty = c.in-Ok.ensures.empty;
      few_seats = omega (
        arith,
        ap length are,
        same_length (seat_over size) (map left_by at.seats),
        same_length left_by at.seats,
        at.few,
        c.in-Ok-reopen.next.streams.ok.0,
      );
      ready = all_ready terms times es desk ws _ (seated_of terms times es desk seats guests ws inside);
      no_calls = subst (AllByRecursion HasNoCalls) (sym are) (none_called size (map left_by at.seats));
    }

pub returns-in-Ok-reopen-clause-seated : goal.returns-in-Ok-reopen-clause-seated
returns-in-Ok-reopen-clause-seated g c = λ es ws at.
    let terms = g.D.Chronicle.terms in
    let times = g.D.Chronicle.times in
    let size = c.limit-limit.result in
    let desk = c.args.interval.ended.book.desk in
    let guests = c.args.interval.guests.items in
    let seats = c.in-Ok-reopen.next.streams.items in
    let are : seats ≡ map (seat_over size) (map left_by at.seats) =
    c.in-Ok-reopen.ensures.streams ∙ ap (map (seat_over size)) at.rests in
    let inside = subst (λ (these : List StreamSeatValue). AllAt (IsGuestIn terms times es desk) guests these ws) (sym are)
    (guests_in terms times es desk size guests at.seats ws at.each) in
    record {
      history = at.history;
      opens = rw (← c.requires.blank.opens) (inr at.left_here);
      idle = c.seat_all.ensures.idle;
      places = c.seat_all.ensures.places;
      few = omega (
        arith,
        c.seat_all.ensures.turns_within,
        ap length are,
        same_length (seat_over size) (map left_by at.seats),
        same_length left_by at.seats,
        at.few,
        c.in-Ok-reopen.next.streams.ok.0,
      );
      helds = helds_of seats guests;
      turns = c.seat_all.ensures.turns;
      tickets = c.seat_all.ensures.tickets ∙ tickets_are terms times es desk seats guests ws inside;
      each = rw (← c.requires.blank.opens) (seated_of terms times es desk seats guests ws inside);
    }

pub returns-in-Ok-reopen-clause-limit : goal.returns-in-Ok-reopen-clause-limit
returns-in-Ok-reopen-clause-limit g c = ap (λ (hub : HubValue). hub.limit) c.in-Ok-reopen.ensures.hub ∙ c.limit-limit.ensures
