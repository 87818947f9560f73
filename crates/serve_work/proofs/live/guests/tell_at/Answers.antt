use Rattle.std.proofs.Common.{◌≡◌, ◌⊎◌, ◌∙◌, ◌++◌, IfSome, IsFalse, IsTrue, List, None, Option, Some, ap, arith, slice_get, subst, sym}
use Rattle.serve_client.specs.Streams.{is_waiting}
use Rattle.serve_work.specs.declared.live.guests.Guest.{Guest}
use Rattle.serve_work.specs.LiveInside.{AreGuests, IsGuestAt, ended_so}
use Rattle.serve_core.proofs.Items.Lists.{slice_get_here}
use Rattle.serve_core.proofs.Items.Picks.{set_same}
use Rattle.serve_work.proofs.Answering.{can_tell, guest_at, may_tell, nobody_leaves, with_guests}
use Rattle.serve_work.proofs.Retiring.{one_item}
use Rattle.serve_work.proofs.live.guests.tell_at.Goals as goal

pub tell-requires : goal.tell-requires
tell-requires g c =
    let a = c.requires.guests in
    let guests = c.args.guests.now.items in
    let at = guest_at (IsGuestAt g.D.Chronicle.terms g.D.Chronicle.times a.0 c.args.ended.now.book.desk) guests a.3.seats a.1
    c.args.place c.in-Some.guest
    a.3.each (c.take_at.ensures.taken ∙ ap Some c.in-Some.is) in
    let here = slice_get_here guests c.args.place c.index.result.now (omega (arith, c.requires.within, c.args.guests.now.ok.0))
    c.index.ensures in
    let same : c.index.result.now ≡ Some c.in-Some.guest =
    one_item guests c.args.place _ _ here (c.take_at.ensures.taken ∙ ap Some c.in-Some.is) in
    let due = subst (λ (o : Option (Guest _ _)). IfSome o (λ guest. IsTrue c.args.gives_up ⊎ IsFalse (is_waiting guest.stream))) same
    (c.is_due.ensures.due c.if-not-is_due.false) in
    record {
      can = (
        a.0,
        ended_so c.args.gives_up a.0,
        at.before,
        at.w,
        at.after,
        subst (g.D.Chronicle.stands c.args.door.now (ended_so c.args.gives_up a.0)) at.split a.2,
        may_tell c.args.gives_up a.0 c.in-Some.guest.stream due,
        can_tell g.D.Chronicle.terms
            g.D.Chronicle.times a.0 c.args.ended.now a.1
            guests c.args.place c.in-Some.guest a.3 at,
      );
    }

pub returns-in-Some-clause-guests : goal.returns-in-Some-clause-guests
returns-in-Some-clause-guests g c =
    let a = c.requires.guests in
    let guests = c.args.guests.now.items in
    let at = guest_at (IsGuestAt g.D.Chronicle.terms g.D.Chronicle.times a.0 c.args.ended.now.book.desk) guests a.3.seats a.1
    c.args.place c.in-Some.guest
    a.3.each (c.take_at.ensures.taken ∙ ap Some c.in-Some.is) in
    let told = c.tell.ensures.waits_no_longer (ended_so c.args.gives_up a.0) at.before at.w at.after
    (subst (g.D.Chronicle.stands c.args.door.now (ended_so c.args.gives_up a.0)) at.split a.2)
    (sym at.is.0) in (
      a.0,
      at.before ++ at.after,
      told,
      subst (λ (gs : List (Option (Guest _ _))). AreGuests g.D.Chronicle.terms g.D.Chronicle.times a.0 c.args.ended.now (at.before ++ at.after) gs)
          (sym c.take_at.ensures.emptied)
          (with_guests g.D.Chronicle.terms
          g.D.Chronicle.times a.0 c.args.ended.now
          a.1 (at.before ++ at.after) guests _ a.3 at.others),
    )

pub returns-in-None-clause-guests : goal.returns-in-None-clause-guests
returns-in-None-clause-guests g c =
    let a = c.requires.guests in
    let guests = c.args.guests.now.items in
    let others =
    nobody_leaves (IsGuestAt g.D.Chronicle.terms g.D.Chronicle.times a.0 c.args.ended.now.book.desk) guests a.3.seats a.1 c.args.place a.3.each
    (c.take_at.ensures.taken ∙ ap Some c.in-None.is) in (
      a.0,
      a.1,
      a.2,
      subst (λ (gs : List (Option (Guest _ _))). AreGuests g.D.Chronicle.terms g.D.Chronicle.times a.0 c.args.ended.now a.1 gs)
          (sym c.take_at.ensures.emptied)
          (with_guests g.D.Chronicle.terms
          g.D.Chronicle.times a.0 c.args.ended.now
          a.1 a.1 guests _ a.3 others),
    )

pub returns-then-not-is_due-clause-told : goal.returns-then-not-is_due-clause-told
returns-then-not-is_due-clause-told g c = λ up.
    let guests = c.args.guests.now.items in
    let here = slice_get_here guests c.args.place c.index.result.now (omega (arith, c.requires.within, c.args.guests.now.ok.0))
    c.index.ensures in
    sym (set_same guests c.args.place None
    (subst (λ (o : Option (Guest _ _)). slice_get guests c.args.place ≡ Some o)
    (c.is_due.ensures.none up c.if-not-is_due.true) here))

pub returns-in-Some-clause-told : goal.returns-in-Some-clause-told
returns-in-Some-clause-told g c = λ _. c.take_at.ensures.emptied

pub returns-in-None-clause-told : goal.returns-in-None-clause-told
returns-in-None-clause-told g c = λ _. c.take_at.ensures.emptied
