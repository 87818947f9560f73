use Rattle.std.proofs.Common.{◌∙◌, Some, ap, subst, sym, arith}
use Rattle.std.specs.Prelude.{slice_get, ⊤}
use Rattle.serve_core.proofs.Items.Lists.{slice_get_here}
use Rattle.serve_hub.specs.Ends.{IsStreamOf}
use Rattle.serve_hub.specs.Seats.{left_by}
use Rattle.serve_work.specs.LiveInside.{IsGuestAt}
use Rattle.serve_work.proofs.Answering.{can_tell, guest_at}
use Rattle.serve_work.proofs.Retiring.{some_and}
use Rattle.serve_work.proofs.Showing.{can_show}
use Rattle.serve_work.proofs.live.guests.show_at.Goals as goal

pub standing_at-requires : goal.standing_at-requires
standing_at-requires g c =
    let a = c.requires.guests in
    let desk = c.args.ended.now.book.desk in
    let guests = c.args.guests.now.items in
    let here = slice_get_here guests c.args.place c.index.result.now (omega (arith, c.requires.within, c.args.guests.now.ok.0))
    c.index.ensures ∙ ap Some c.in-Some.is in
    let at = guest_at (IsGuestAt g.D.Chronicle.terms g.D.Chronicle.times a.0 desk) guests a.3.seats a.1 c.args.place c.in-Some.guest a.3.each
    here in
    let told = can_tell g.D.Chronicle.terms g.D.Chronicle.times a.0
    c.args.ended.now a.1 guests c.args.place c.in-Some.guest a.3 at in (
      left_by told.seat,
      told.here,
      some_and (IsStreamOf told.seat) (λ _. ⊤) (slice_get desk.streams told.seat.number) (λ x is. tt) told.kept,
    )

pub show-requires : goal.show-requires
show-requires g c =
    let a = c.requires.guests in
    let desk = c.args.ended.now.book.desk in
    let guests = c.args.guests.now.items in
    let here = slice_get_here guests c.args.place c.index.result.now (omega (arith, c.requires.within, c.args.guests.now.ok.0))
    c.index.ensures ∙ ap Some c.in-Some.is in
    let at = guest_at (IsGuestAt g.D.Chronicle.terms g.D.Chronicle.times a.0 desk) guests a.3.seats a.1 c.args.place c.in-Some.guest a.3.each
    here in
    let told = can_tell g.D.Chronicle.terms g.D.Chronicle.times a.0
    c.args.ended.now a.1 guests c.args.place c.in-Some.guest a.3 at in
    record {
      standing = (
        a.0,
        at.before,
        at.w,
        at.after,
        subst (g.D.Chronicle.stands c.args.door.now a.0) at.split a.2,
        sym at.is.0,
        can_show g.D.Chronicle.terms g.D.Chronicle.times a.0 desk
            at.w c.in-Some.guest.stream told.seat c.standing_at.result told.history told.stood
            (sym c.is_waiting.ensures ∙ c.if-is_waiting.true) told.kept
            (c.standing_at.ensures (left_by told.seat) told.here),
      );
    }
