use Rattle.std.proofs.Common.{◌≡◌, ◌∷◌, ap, inl, inr, refl, subst, sym}
use Rattle.serve_core.specs.Schedule.{ScheduleValue}
use Rattle.serve_core.specs.Ticked.{at_moment}
use Rattle.serve_hub.specs.Ends.{EndedValue}
use Rattle.serve_work.specs.History.{epoch_of, left_at}
use Rattle.serve_work.proofs.live.clock.go_to_now.Goals as goal

pub goes_on-requires : goal.goes_on-requires
goes_on-requires g c =
    let at = c.requires.told in
    record {
      from_end = (epoch_of c.args.ended at.0, at.1, at.2, at.3, refl);
      time = c.requires.times c.moment-at.result c.moment-at.ensures;
      within = c.in-Ok.ensures.within;
    }

pub returns-in-Ok : goal.returns-in-Ok
returns-in-Ok g c = λ whose es ws told.
    let at = c.moment-at.result in
    let is = c.in-Ok.ensures.ended in
    let desk : _ ≡ at_moment at c.args.ended.book.desk = ap (λ (e : EndedValue). e.book.desk) is in
    record {
      clock = (at, c.requires.times at c.moment-at.ensures, inl (c.in-Ok.ensures.within, desk));
      told = subst (λ (x : ScheduleValue). g.C.Chronicle.stands c.goes_on.new.self (left_at x (epoch_of c.args.ended whose) ∷ es) ws)
          (sym desk) (c.goes_on.ensures.gone (epoch_of c.args.ended whose) es ws told);
      limit = ap (λ (e : EndedValue). e.book.limit) is;
      streams = ap (λ (e : EndedValue). e.streams) is;
    }

pub returns-in-Err : goal.returns-in-Err
returns-in-Err g c = λ whose es ws told.
    let at = c.moment-at.result in
    let is = c.in-Err.ensures.returns_ended in
    let desk : _ ≡ c.args.ended.book.desk = ap (λ (e : EndedValue). e.book.desk) is in
    record {
      clock = (at, c.requires.times at c.moment-at.ensures, inr (c.in-Err.ensures.refused, desk));
      told = subst (λ (x : ScheduleValue). g.C.Chronicle.stands c.args.chronicle.now (left_at x (epoch_of c.args.ended whose) ∷ es) ws)
          (sym desk) told;
      limit = ap (λ (e : EndedValue). e.book.limit) is;
      streams = ap (λ (e : EndedValue). e.streams) is;
    }
