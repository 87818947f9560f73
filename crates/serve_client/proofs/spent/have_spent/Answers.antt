use Rattle.std.proofs.Common.{◌≡◌, All, List, slice_index_or, refl, subst, arith, take_all}
use Rattle.std.proofs.lemmas.List.Elements.{All-more, at_read}
use Rattle.serve_hub.specs.Seats.{WorkSeatValue}
use Rattle.serve_client.specs.Workers.{AreSpent}
use Rattle.serve_client.proofs.spent.have_spent.Goals as goal

pub loop-seat-preserved : goal.loop-seat-preserved
loop-seat-preserved g c =
    let seats = c.args.seats.now.items in
    let i = c.loop-seat.seat-index in
    let seat = c.seat-item.result in
    let here : seat ≡ slice_index_or seats i seat =
    subst (λ (xs : List WorkSeatValue). seat ≡ slice_index_or xs i seat) c.deref-seat-items.ensures.value c.seat-item.is in
    All-more (λ (s : WorkSeatValue). AreSpent s.calls.list) seats i seat (omega arith) c.loop-seat.invariant
    (at_read seats (λ (s : WorkSeatValue). AreSpent s.calls.list) i seat (omega arith) here
    (subst AreSpent c.calls.ensures (c.if-not-are_spent.ensures refl)) seat)

pub returns : goal.returns
returns g c = λ _.
    subst (All (λ (s : WorkSeatValue). AreSpent s.calls.list))
    (take_all c.loop-seat.seat-index c.args.seats.now.items (omega arith)) c.loop-seat.invariant
