use Rattle.std.proofs.Common.{◌≡◌, subst, sym}
use Rattle.serve_work.specs.SessionInside.{GoesOn, HeldValue}
use Rattle.serve_work.proofs.session.turn.Turn.run.Goals as goal

pub returns-in-Some : goal.returns-in-Some
returns-in-Some g c = λ held is.
    let gives = g.K.Clock.gives c.args.clock.now in
    let taken = c.in-Some.ensures.value in
    let seen = c.self.view_is in
    let same : c.in-Some.held ≡ held = cc in
    subst (λ (h : HeldValue). GoesOn gives h c.insert.result.now) same
    (subst (λ (h : HeldValue). GoesOn gives c.in-Some.held h) (sym c.insert.ensures.value) c.go_on.ensures)
