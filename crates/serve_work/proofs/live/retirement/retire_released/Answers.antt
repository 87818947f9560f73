use Rattle.std.proofs.Common.{◌≡◌, ◌∙◌, Bool, List, Option, ap, map, subst, sym}
use Rattle.serve_core.specs.Retired.{stays}
use Rattle.serve_hub.specs.Ends.{EndedValue}
use Rattle.serve_hub.specs.Seats.{StreamRest}
use Rattle.serve_work.specs.declared.live.guests.Guest.{Guest}
use Rattle.serve_work.specs.LiveInside.{AreGuests, AreToldBut, at_marks}
use Rattle.serve_work.proofs.Retiring.{guests_retired, marked_first, told_first}
use Rattle.serve_work.proofs.Showing.{latest_left}
use Rattle.serve_work.proofs.live.retirement.retire_released.Goals as goal

pub tell_retired-requires : goal.tell_retired-requires
tell_retired-requires g c =
    let at = c.requires.guests in
    let latest = latest_left at.0 c.args.interval.ended.book.desk at.3.left_here in
    record {
      behind = (
        latest.0,
        latest.1,
        at.1,
        subst (λ es. g.C.Chronicle.stands c.args.chronicle.now es at.1) latest.2 at.2,
        latest.3,
      );
    }

pub returns-in-Ok : goal.returns-in-Ok
returns-in-Ok g c =
    let ended = c.args.interval.ended in
    let guests = c.args.interval.guests.items in
    let f = λ (rest : StreamRest). stays ended.book.desk rest.number in
    let marks = c.in-Some.ensures.marks in
    let kept : c.keep_marked.new.kept.items ≡ at_marks (map f ended.streams) guests =
    c.keep_marked.ensures
    ∙ ap (λ (these : List Bool). at_marks these guests) marks
    ∙ marked_first f ended.streams guests in
    let told : AreToldBut (map f ended.streams) guests =
    told_first f ended.streams guests (subst (λ (these : List Bool). AreToldBut these guests) marks c.in-Some.ensures.unmarked_told) in
    record {
      guests = λ es ws at.
          let there = guests_retired
          g.C.Chronicle.terms g.C.Chronicle.times es ended ws
          guests at told in
          subst (λ (gs : List (Option (Guest _ _))). AreGuests g.C.Chronicle.terms g.C.Chronicle.times es c.in-Ok.retired.ended ws gs) (sym kept)
          (subst (λ (e : EndedValue). AreGuests g.C.Chronicle.terms g.C.Chronicle.times es e ws (at_marks (map f ended.streams) guests))
          (sym c.in-Ok.ensures.ended) there);
      waits = c.tell_retired.ensures;
    }
