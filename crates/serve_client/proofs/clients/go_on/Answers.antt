use Rattle.std.proofs.Common.{◌≡◌, ◌∙◌, ◌≤◌, IfSome, ap, arith, subst, sym}
use Rattle.y4m_header.specs.declared.limits.TheConstants.{MOST_FRAMES}
use Rattle.y4m_stream.specs.Reader.{IsOfHeader}
use Rattle.serve_client.specs.Clients.{AllowsStop}
use Rattle.serve_client.specs.ClientInside.{KeepsFault}
use Rattle.serve_client.specs.Rests.{Begun, IsRestOf, IsUnbegun, RestValue, reader_in, rest_stop}
use Rattle.serve_client.specs.RestInside.{rest_of}
use Rattle.serve_client.specs.Turns.{turn_stop}
use Rattle.serve_client.proofs.Resting.{begun_with, can_resume, resumed}
use Rattle.serve_client.proofs.clients.go_on.Goals as goal

pub run-requires-clause-can : goal.run-requires-clause-can
run-requires-clause-can g c =
    let inside = c.begun.inside in
    let same : c.args.rest ≡ Begun (begun_with inside.course inside.reader inside.writer inside.accepted inside.collected) =
    sym c.rest.view_is ∙ ap (rest_of g.W.Sink.contents g.W.Sink.failures) c.in-Begun.is ∙ ap Begun
    (sym c.in-Begun.begun-is ∙ sym c.begun.view_is) in
    let most : c.args.seat.frames ≤ MOST_FRAMES = omega (arith, c.frames-recalled.ensures.value, c.frames-recalled.ensures.most) in
    can_resume inside.course inside.reader c.args.seat inside.writer inside.buffers inside.accepted inside.collected most
    (subst (λ (r : RestValue). IsOfHeader (reader_in r).header c.args.seat.chain.geometry) same c.requires.header) c.begun.invariant
    c.requires.rest.0 c.requires.rest.1 (subst (IsRestOf c.requires.rest.0 c.requires.rest.1 c.args.seat) same c.requires.rest.2)

pub returns-in-Unbegun-clause-turn : goal.returns-in-Unbegun-clause-turn
returns-in-Unbegun-clause-turn g c = λ start past at.
    let unbegun : IsUnbegun start past c.args.seat c.in-Unbegun.reader (g.W.Sink.contents c.in-Unbegun.writer)
    (g.W.Sink.failures c.in-Unbegun.writer) =
    subst (IsRestOf start past c.args.seat) (sym c.rest.view_is ∙ ap (rest_of g.W.Sink.contents g.W.Sink.failures) c.in-Unbegun.is) at in
    c.begin.ensures.turn start past
    (rw (c.in-Unbegun.reader-is, c.in-Unbegun.writer-is) unbegun)

pub returns-in-Begun-clause-turn : goal.returns-in-Begun-clause-turn
returns-in-Begun-clause-turn g c = λ start past at.
    let inside = c.begun.inside in
    let same : c.args.rest ≡ Begun (begun_with inside.course inside.reader inside.writer inside.accepted inside.collected) =
    sym c.rest.view_is ∙ ap (rest_of g.W.Sink.contents g.W.Sink.failures) c.in-Begun.is ∙ ap Begun
    (sym c.in-Begun.begun-is ∙ sym c.begun.view_is) in
    c.run.ensures.turn start past (resumed inside.course inside.reader c.args.seat inside.writer inside.accepted inside.collected start past
    (subst (IsRestOf start past c.args.seat) same at))

pub returns-in-Unbegun-clause-stop : goal.returns-in-Unbegun-clause-stop
returns-in-Unbegun-clause-stop g c = λ _. c.begin.ensures.stop

pub returns-in-Begun-clause-stop : goal.returns-in-Begun-clause-stop
returns-in-Begun-clause-stop g c = λ was.
    let inside = c.begun.inside in
    let same : c.args.rest ≡ Begun (begun_with inside.course inside.reader inside.writer inside.accepted inside.collected) =
    sym c.rest.view_is ∙ ap (rest_of g.W.Sink.contents g.W.Sink.failures) c.in-Begun.is ∙ ap Begun
    (sym c.in-Begun.begun-is ∙ sym c.begun.view_is) in
    c.run.ensures.stop (subst (λ (r : RestValue). IfSome (rest_stop r) (AllowsStop (g.K.Clock.gives c.args.post.clock.now))) same was)

pub returns-in-Unbegun-clause-fault : goal.returns-in-Unbegun-clause-fault
returns-in-Unbegun-clause-fault g c =
    let is = sym c.rest.view_is ∙ ap (rest_of g.W.Sink.contents g.W.Sink.failures) c.in-Unbegun.is in
    subst (λ (r : RestValue). KeepsFault (rest_stop r) (turn_stop c.begin.result)) (sym is) tt

pub returns-in-Begun-clause-fault : goal.returns-in-Begun-clause-fault
returns-in-Begun-clause-fault g c =
    let inside = c.begun.inside in
    let same : c.args.rest ≡ Begun (begun_with inside.course inside.reader inside.writer inside.accepted inside.collected) =
    sym c.rest.view_is ∙ ap (rest_of g.W.Sink.contents g.W.Sink.failures) c.in-Begun.is ∙ ap Begun
    (sym c.in-Begun.begun-is ∙ sym c.begun.view_is) in
    subst (λ (r : RestValue). KeepsFault (rest_stop r) (turn_stop c.run.result)) (sym same) c.run.ensures.fault
