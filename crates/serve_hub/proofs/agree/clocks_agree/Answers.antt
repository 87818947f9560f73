use Rattle.std.proofs.Common.{◌≡◌, slice_index_or, refl, sym, subst, arith, take_all}
use Rattle.std.proofs.lemmas.List.Elements.{All-more, at_read}
use Rattle.serve_hub.specs.Books.{opening_of, specs_of}
use Rattle.serve_hub.specs.Ends.{ClockReached, ClocksReached}
use Rattle.serve_hub.specs.Seats.{StreamSeatValue}
use Rattle.serve_hub.proofs.Agreeing.{not_here}
use Rattle.serve_hub.proofs.agree.clocks_agree.Goals as goal

pub loop-seat-preserved : goal.loop-seat-preserved
loop-seat-preserved g c =
    let seats = c.args.seats.now in
    let b = c.args.book.now in
    let i = c.loop-seat.seat-index in
    let seat = c.seat-item.result in
    let IsHere = λ (s : StreamSeatValue). ClockReached s.number s.moments (specs_of b.desk) (opening_of b) b.past in
    let here : seat ≡ slice_index_or seats i seat = c.seat-item.is in
    let reached = c.if-not-clock_agrees.ensures (specs_of b.desk) (opening_of b) (sym c.requires) in
    All-more IsHere seats i seat (omega arith) c.loop-seat.invariant
    (at_read seats IsHere i seat (omega arith) here (rw (← c.number.ensures, ← c.moments.ensures, ← c.journal.ensures.past) (reached.0 refl)) seat)

pub returns-then-not-clock_agrees : goal.returns-then-not-clock_agrees
returns-then-not-clock_agrees g c =
    let seats = c.args.seats.now in
    let b = c.args.book.now in
    let i = c.loop-seat.seat-index in
    let seat = c.seat-item.result in
    let here : seat ≡ slice_index_or seats i seat = c.seat-item.is in
    let reached = c.if-not-clock_agrees.ensures (specs_of b.desk) (opening_of b) (sym c.requires) in
    not_here (λ (s : StreamSeatValue). ClockReached s.number s.moments (specs_of b.desk) (opening_of b) b.past) seats i seat
    (omega arith) here (rw (← c.number.ensures, ← c.moments.ensures, ← c.journal.ensures.past) reached)

pub returns : goal.returns
returns g c = (
  λ e.
      subst (ClocksReached c.args.book.now) (take_all c.loop-seat.seat-index c.args.seats.now (omega arith))
      c.loop-seat.invariant,
  λ all. refl,
)
