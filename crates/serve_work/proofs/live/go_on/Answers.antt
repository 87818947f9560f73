use Rattle.std.proofs.Common.{refl}
use Rattle.serve_work.proofs.live.go_on.Goals as goal

pub next_epoch-requires-clause-blank : goal.next_epoch-requires-clause-blank
next_epoch-requires-clause-blank g c κs within = record { name_is = refl; parts_are = refl; enough = c.new-blank.ensures; opens = refl }

pub next_epoch-requires-clause-guests : goal.next_epoch-requires-clause-guests
next_epoch-requires-clause-guests g c κs within =
    let at = c.tell_guests.ensures.guests c.if-not-tell_guests.false in
    let shown = c.show_guests.ensures.waits at.0 at.1 at.2 in (
      at.0,
      at.1,
      c.retire_released-left.ensures.waits at.0 at.1 shown,
      c.retire_released-left.ensures.guests at.0 at.1 at.3,
    )

pub show_guests-requires : goal.show_guests-requires
show_guests-requires g c = record {
  guests = c.tell_guests.ensures.guests c.if-not-tell_guests.false;
  left = c.tell_guests.ensures.left c.if-not-tell_guests.false;
}

pub retire_released-left-requires : goal.retire_released-left-requires
retire_released-left-requires g c =
    let at = c.tell_guests.ensures.guests c.if-not-tell_guests.false in
    record { guests = (at.0, at.1, c.show_guests.ensures.waits at.0 at.1 at.2, at.3) }

pub returns-then-not-tell_guests-clause-answered : goal.returns-then-not-tell_guests-clause-answered
returns-then-not-tell_guests-clause-answered g c = c.tell_guests.ensures.answered c.if-not-tell_guests.true
