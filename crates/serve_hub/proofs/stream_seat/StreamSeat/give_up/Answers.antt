use Rattle.serve_hub.proofs.Keeping.{first_sized, sized_rest}
use Rattle.serve_hub.proofs.stream_seat.StreamSeat.give_up.Goals as goal

pub invariant_of-self-inside : goal.invariant_of-self-inside
invariant_of-self-inside g c =
    let rest = c.self-inside.inside.0.0 in (
      rw c.pop_front.ensures.rest
          (sized_rest rest.spec.chain.geometry rest.kept.items c.self-inside.invariant.0),
      c.self-inside.invariant.1,
      c.self-inside.invariant.2,
      c.self-inside.invariant.3,
    )

pub returns-clause-size : goal.returns-clause-size
returns-clause-size g c =
    let rest = c.self-inside.inside.0.0 in
    rw (← c.self.view_is, ← c.self-inside.view_is)
    (first_sized rest.spec.chain.geometry rest.kept.items c.pop_front.new.self.items c.pop_front.result
    c.pop_front.ensures.items c.self-inside.invariant.0)
