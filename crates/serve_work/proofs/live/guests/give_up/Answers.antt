use Rattle.std.proofs.Common.{Bool, subst, sym}
use Rattle.serve_work.specs.LiveInside.{ended_so}
use Rattle.serve_work.proofs.live.guests.give_up.Goals as goal

pub returns-then-not-gives_up : goal.returns-then-not-gives_up
returns-then-not-gives_up g c = λ es ws told.
    subst (λ (b : Bool). g.C.Chronicle.stands c.args.chronicle.now (ended_so b es) ws) (sym c.if-not-gives_up.true) told

pub returns : goal.returns
returns g c = λ es ws told.
    subst (λ (b : Bool). g.C.Chronicle.stands c.gives_up.new.self (ended_so b es) ws) (sym c.if-not-gives_up.false)
    (c.gives_up.ensures.given_up es ws told)
