use Rattle.std.proofs.Common.{inr, subst}
use Rattle.serve_core.specs.Setup.{Setup}
use Rattle.serve_hub.specs.Seats.{opened_streams}
use Rattle.serve_work.specs.Sessions.{IsSession, starts_of}
use Rattle.serve_report.proofs.session.Session.serve_opened.Goals as goal

pub returns : goal.returns
returns g c =
    let sink = g.W.Sink in
    inr (subst (λ (setup : Setup). IsSession (g.K.Clock.gives c.args.self.clock.now) setup c.args.self.form.journal
    (starts_of sink.contents sink.failures (opened_streams c.args.self.form.journal 0 setup.streams) c.args.inputs.items) c.in_ok-left.left.items) c.in-Ok.ensures.setup
    c.in_ok-left.ensures.session)
