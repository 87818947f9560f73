use Rattle.std.proofs.Common.{◌≡◌, All, slice_index_or, refl, subst, arith, take_all}
use Rattle.std.proofs.lemmas.List.Elements.{All-more, at_read}
use Rattle.serve_core.specs.Schedule.{HasStream}
use Rattle.serve_hub.specs.Ends.{IsStreamOf}
use Rattle.serve_hub.specs.Seats.{StreamSeatValue}
use Rattle.serve_hub.proofs.Agreeing.{not_here}
use Rattle.serve_hub.proofs.agree.have_their_streams.Goals as goal

pub loop-seat-preserved : goal.loop-seat-preserved
loop-seat-preserved g c =
    let seats = c.args.seats.now in
    let i = c.loop-seat.seat-index in
    let seat = c.seat-item.result in
    let IsHere = λ (s : StreamSeatValue). HasStream c.args.book.now.desk s.number (IsStreamOf s) in
    let here : seat ≡ slice_index_or seats i seat = c.seat-item.is in
    All-more IsHere seats i seat (omega arith) c.loop-seat.invariant
    (at_read seats IsHere i seat (omega arith) here (c.if-not-has_its_stream.ensures.0 refl) seat)

pub returns-then-not-has_its_stream : goal.returns-then-not-has_its_stream
returns-then-not-has_its_stream g c =
    let seats = c.args.seats.now in
    let i = c.loop-seat.seat-index in
    let seat = c.seat-item.result in
    let here : seat ≡ slice_index_or seats i seat = c.seat-item.is in
    not_here (λ (s : StreamSeatValue). HasStream c.args.book.now.desk s.number (IsStreamOf s)) seats i seat (omega arith) here
    c.if-not-has_its_stream.ensures

pub returns : goal.returns
returns g c = (
  λ e.
      let IsHere = λ (s : StreamSeatValue). HasStream c.args.book.now.desk s.number (IsStreamOf s) in
      subst (All IsHere) (take_all c.loop-seat.seat-index c.args.seats.now (omega arith)) c.loop-seat.invariant,
  λ all. refl,
)
