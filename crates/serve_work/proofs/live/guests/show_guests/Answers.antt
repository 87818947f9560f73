use Rattle.std.proofs.Common.{◌∙◌, ◌∷◌, subst}
use Rattle.serve_work.specs.LiveInside.{IsGuestAt}
use Rattle.serve_work.proofs.Answering.{some_waits}
use Rattle.serve_work.proofs.Showing.{latest_left}
use Rattle.serve_work.proofs.live.guests.show_guests.Goals as goal

pub end_show-requires : goal.end_show-requires
end_show-requires g c =
    let at = c.requires.guests in
    let desk = c.args.ended.now.book.desk in
    let stands = g.D.Chronicle.stands c.loop-place.door in
    let latest = latest_left at.0 desk at.3.left_here in
    let waits = some_waits (IsGuestAt g.D.Chronicle.terms g.D.Chronicle.times at.0 desk) c.args.guests.now.items at.3.seats at.1 at.3.each
    c.requires.left in
    record {
      clock = (
        latest.0,
        latest.1,
        waits.0,
        waits.1,
        subst (λ es. stands es (waits.0 ∷ waits.1)) latest.2
            (subst (stands at.0) waits.2 (c.loop-place.invariant.waits at.0 at.1 at.2)),
        c.clock.ensures ∙ latest.4,
      );
      nobody = tt;
    }
