use Rattle.std.proofs.Common.{◌≡◌, ◌∙◌, ap, subst, sym}
use Rattle.serve_client.specs.Streams.{IsOver, Over, ServedValue, StreamValue}
use Rattle.serve_client.proofs.GivingUp.{over_told}
use Rattle.serve_work.specs.StreamInside.{stream_of}
use Rattle.serve_work.proofs.session.turn.Stream.into_served.Goals as goal

pub returns-in-Over : goal.returns-in-Over
returns-in-Over g c =
    let over : c.args.self ≡ Over c.in-Over.served.outcome = sym c.self.view_is ∙ ap stream_of c.in-Over.is in
    subst (λ (served : ServedValue). IsOver c.args.self served) (sym c.in-Over.served-is)
    (subst (λ (stream : StreamValue). IsOver stream c.in-Over.served) (sym over) (over_told c.in-Over.served))
