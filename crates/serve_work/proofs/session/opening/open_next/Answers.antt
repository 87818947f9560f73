use Rattle.std.proofs.Common.{ℕ, ◌∙◌, ap, arith, map, refl, subst, sym}
use Rattle.std.specs.List.{AllByRecursion}
use Rattle.serve_hub.specs.Seats.{HubValue, seat_over}
use Rattle.serve_core.specs.Schedule.{ScheduleValue}
use Rattle.serve_work.specs.History.{journal_of}
use Rattle.serve_work.specs.Intervals.{HasNoCalls, IsRoomFor, LeadsTo}
use Rattle.serve_work.specs.Sessions.{OpensInTurn}
use Rattle.serve_work.proofs.Intervals.{new_seats, stand_again, still_between}
use Rattle.serve_work.proofs.Telling.{as_many}
use Rattle.serve_work.proofs.session.opening.open_next.Goals as goal

pub returns-in_default-clause-still_between : goal.returns-in_default-clause-still_between
returns-in_default-clause-still_between g c = λ b epochs at. still_between b epochs c.args.interval _ refl refl refl refl refl at

pub returns-in-Err-clause-still_between : goal.returns-in-Err-clause-still_between
returns-in-Err-clause-still_between g c = λ b epochs at. still_between b epochs c.args.interval _ c.in-Err.ensures.returns_ended refl refl refl refl at

pub returns-in-Ok-reopen-clause-can_begin : goal.returns-in-Ok-reopen-clause-can_begin
returns-in-Ok-reopen-clause-can_begin g c = λ b epochs at.
    let limit = c.limit-limit.result in
    record {
      begun = at.begun;
      opens = subst (λ (x : ScheduleValue). OpensInTurn b.limit b.schedule x epochs) c.requires.blank.opens
          (at.next c.requires.goes_on c.requires.waits);
      past = subst (λ (x : ScheduleValue). LeadsTo b.schedule (journal_of epochs) x) c.requires.blank.opens at.past;
      stand = stand_again limit (journal_of epochs) b.starts at.helds c.in-Ok-reopen.next.streams.items c.args.interval.streams.items
          at.stand (c.in-Ok-reopen.ensures.streams ∙ ap (map (seat_over limit)) at.seats) at.streams;
      room = subst (λ (n : ℕ). IsRoomFor n c.in-Ok.room) c.len.ensures c.in-Ok.ensures;
      untold = at.untold;
      no_calls = subst (AllByRecursion HasNoCalls) (sym c.in-Ok-reopen.ensures.streams)
          (new_seats limit c.args.interval.ended.streams);
      places = omega (arith, as_many b epochs c.args.interval at, at.places, c.args.interval.streams.ok.0);
      limit = ap (λ (hub : HubValue). hub.limit) c.in-Ok-reopen.ensures.hub ∙ c.limit-limit.ensures ∙ at.limit;
    }
