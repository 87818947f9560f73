use Rattle.std.proofs.Common.{◌≡◌, ◌∙◌, IfSome, ap, subst, sym}
use Rattle.serve_client.specs.Clients.{AllowsStop, ClientOutcome}
use Rattle.serve_client.specs.ClientInside.{KeepsMoments}
use Rattle.serve_client.specs.Rests.{IsRestOf}
use Rattle.serve_client.specs.Streams.{Over, ServedValue, StandsAt, Waiting, stream_stop}
use Rattle.serve_client.proofs.Sized.{header_stays}
use Rattle.serve_client.proofs.Tallying.{KeepsMoments-same}
use Rattle.serve_work.specs.SessionInside.{HeldValue, IsReadyAt, Stands, held_at}
use Rattle.serve_work.specs.StreamInside.{stream_of}
use Rattle.serve_work.proofs.SessionStops.{stop_inside}
use Rattle.serve_work.proofs.session.turn.Held.go_on.Goals as goal

pub client-requires : goal.client-requires
client-requires g c =
    let inside = c.self.inside in
    let waits : inside.stream ≡ Waiting c.in-Waiting.rest = sym c.stream.view_is ∙ ap stream_of c.in-Waiting.is in
    let ready : IsReadyAt (Waiting c.in-Waiting.rest) inside.seat = subst (λ s. IsReadyAt s inside.seat) waits c.self.invariant in
    record { header = rw c.in-Waiting.rest-is ready.0; rest = (ready.1.0, ready.1.1, rw c.in-Waiting.rest-is ready.1.2) }

pub new-requires-in-Paused : goal.new-requires-in-Paused
new-requires-in-Paused g c =
    let inside = c.self.inside in
    let waits : inside.stream ≡ Waiting c.in-Waiting.rest = sym c.stream.view_is ∙ ap stream_of c.in-Waiting.is in
    let ready : IsReadyAt (Waiting c.in-Waiting.rest) inside.seat = subst (λ s. IsReadyAt s inside.seat) waits c.self.invariant in
    let after : IsRestOf ready.1.0 ready.1.1 c.in-Paused.seat c.in-Paused.rest =
    c.in-Paused.ensures.turn ready.1.0 ready.1.1 (rw c.in-Waiting.rest-is ready.1.2) in
    record {
      ready = rw c.of_rest.ensures (
        header_stays ready.1.0 ready.1.1 ready.1.1 inside.seat c.in-Paused.seat c.in-Waiting.rest c.in-Paused.rest ready.1.2 after ready.0,
        (ready.1.0, ready.1.1, after),
      );
    }

pub returns-in-Over : goal.returns-in-Over
returns-in-Over g c =
    let inside = c.self.inside in
    let over : inside.stream ≡ Over c.in-Over.served.outcome = sym c.stream.view_is ∙ ap stream_of c.in-Over.is in
    let same : c.args.self ≡ c.new.result =
    sym c.self.view_is ∙ ap (held_at inside.seat) (over ∙ ap (λ (s : ServedValue). Over s.outcome) (sym c.in-Over.served-is)
    ∙ sym c.of_served.ensures) ∙ sym c.new.ensures in (
      λ start past at. subst (Stands start past) same at,
      KeepsMoments-same _ _ _ (sym (ap (λ (held : HeldValue). held.seat) same)),
      λ allowed. subst (λ (held : HeldValue). IfSome (stream_stop held.stream)
          (AllowsStop (g.K.Clock.gives c.args.clock.now))) same allowed,
    )

pub returns-in-Paused : goal.returns-in-Paused
returns-in-Paused g c =
    let inside = c.self.inside in
    let waits : inside.stream ≡ Waiting c.in-Waiting.rest = sym c.stream.view_is ∙ ap stream_of c.in-Waiting.is in (
      λ start past at.
          let was : IsRestOf start past inside.seat c.in-Waiting.rest =
          subst (λ s. StandsAt s start past inside.seat) waits (subst (Stands start past) (sym c.self.view_is) at) in
          rw (c.new-in-Paused.ensures, c.of_rest.ensures) (c.in-Paused.ensures.turn start past (rw c.in-Waiting.rest-is was)),
      rw c.new-in-Paused.ensures (subst (λ (held : HeldValue). KeepsMoments (g.K.Clock.gives c.args.clock.now) held.seat
          c.in-Paused.seat) c.self.view_is c.in-Paused.ensures.moments),
      λ allowed. rw (c.new-in-Paused.ensures, c.of_rest.ensures) (c.in-Paused.ensures.stop (rw c.in-Waiting.rest-is
          (stop_inside (g.K.Clock.gives c.args.clock.now) inside.seat inside.stream _ c.args.self waits c.self.view_is allowed))),
    )

pub returns-in-Ended : goal.returns-in-Ended
returns-in-Ended g c =
    let inside = c.self.inside in
    let waits : inside.stream ≡ Waiting c.in-Waiting.rest = sym c.stream.view_is ∙ ap stream_of c.in-Waiting.is in (
      λ start past at.
          let was : IsRestOf start past inside.seat c.in-Waiting.rest =
          subst (λ s. StandsAt s start past inside.seat) waits (subst (Stands start past) (sym c.self.view_is) at) in
          rw (c.new-in-Ended.ensures, c.of_served-in-Ended.ensures) (rw (c.part-seat.ensures.seat, c.part-seat.ensures.outcome)
          (c.in-Ended.ensures.turn start past (rw c.in-Waiting.rest-is was))),
      rw c.new-in-Ended.ensures (rw c.part-seat.ensures.seat (subst (λ (held : HeldValue).
          KeepsMoments (g.K.Clock.gives c.args.clock.now) held.seat c.in-Ended.end.seat) c.self.view_is c.in-Ended.ensures.moments)),
      λ allowed. rw (c.new-in-Ended.ensures, c.of_served-in-Ended.ensures) (subst (AllowsStop (g.K.Clock.gives c.args.clock.now))
          (sym (ap (λ (o : ClientOutcome). o.stop) c.part-seat.ensures.outcome))
          (c.in-Ended.ensures.stop (rw c.in-Waiting.rest-is (stop_inside (g.K.Clock.gives c.args.clock.now) inside.seat inside.stream _
          c.args.self waits c.self.view_is allowed)))),
    )
