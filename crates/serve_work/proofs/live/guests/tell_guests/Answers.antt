use Rattle.std.proofs.Common.{◌≤◌, ◌∙◌, Bool, arith, length, refl, subst}
use Rattle.serve_work.specs.LiveInside.{IsGuestAt, ended_so}
use Rattle.serve_work.proofs.Answering.{history_so, nobody_waits}
use Rattle.serve_work.proofs.Retiring.{all_emptied, emptied_more}
use Rattle.serve_work.proofs.live.guests.tell_guests.Goals as goal

pub loop-place-init : goal.loop-place-init
loop-place-init g c =
    let at = c.requires.guests in
    record {
      guests = (at.0, at.1, c.give_up.ensures at.0 at.1 at.2, at.3);
      len = refl;
      told = λ up k guest less here. absurd (omega (arith, less));
    }

pub loop-place-preserved : goal.loop-place-preserved
loop-place-preserved g c =
    record {
      guests = c.tell_at.ensures.guests;
      len = c.tell_at.ensures.len ∙ c.loop-place.invariant.len;
      told = λ up. emptied_more c.loop-place.guests.items c.tell_at.new.guests.items c.loop-place.place
          (c.loop-place.invariant.told up) (c.tell_at.ensures.told up);
    }

pub returns-then-gives_up-clause-guests : goal.returns-then-gives_up-clause-guests
returns-then-gives_up-clause-guests g c = λ left. absurd (cc)

pub returns-then-gives_up-clause-answered : goal.returns-then-gives_up-clause-answered
returns-then-gives_up-clause-answered g c = λ _.
    let at = c.loop-place.invariant.guests in
    let up = c.if-gives_up.true in
    let over : length c.loop-place.guests.items ≤ c.loop-place.place =
    omega (arith, c.loop-place-test.false, c.loop-place.invariant.len, c.loop-place.guests.ok.0) in
    let told = all_emptied c.loop-place.guests.items c.loop-place.place over (c.loop-place.invariant.told up) in (
      ended_so c.args.gives_up at.0,
      history_so c.args.gives_up g.D.Chronicle.terms g.D.Chronicle.times at.0 at.3.history,
      subst (g.D.Chronicle.stands c.loop-place.door (ended_so c.args.gives_up at.0))
          (nobody_waits (IsGuestAt g.D.Chronicle.terms g.D.Chronicle.times at.0 c.args.ended.now.book.desk) c.loop-place.guests.items
          at.3.seats at.1 at.3.each told) at.2,
    )

pub returns-clause-guests : goal.returns-clause-guests
returns-clause-guests g c = λ left.
    let at = c.loop-place.invariant.guests in
    (at.0, at.1, subst (λ (b : Bool). g.D.Chronicle.stands c.loop-place.door (ended_so b at.0) at.1) c.if-gives_up.false at.2, at.3)

pub returns-clause-answered : goal.returns-clause-answered
returns-clause-answered g c = λ none.
    let at = c.loop-place.invariant.guests in
    let stood = subst (λ (b : Bool). g.D.Chronicle.stands c.loop-place.door (ended_so b at.0) at.1) c.if-gives_up.false at.2 in (
      at.0,
      at.3.history,
      subst (g.D.Chronicle.stands c.loop-place.door at.0)
          (nobody_waits (IsGuestAt g.D.Chronicle.terms g.D.Chronicle.times at.0 c.args.ended.now.book.desk) c.loop-place.guests.items
          at.3.seats at.1 at.3.each (c.any_left.ensures.none none)) stood,
    )
