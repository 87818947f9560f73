use Rattle.serve_core.specs.Seen.{heard, seen}
use Rattle.serve_script.specs.SessionInside.{SessionValue, settings_told}
use Rattle.serve_script.proofs.Sessions.{event_answered, ok_then, running_on}
use Rattle.serve_script.proofs.session.running.Session.run_event.Goals as goal

pub invariant_of-self : goal.invariant_of-self
invariant_of-self c =
    running_on c.self.inside.streams c.self.inside.machine c.step-reply.new.self (seen c.args.event) (heard c.step-reply.result)
    c.self.invariant c.step-reply.ensures.state c.step-reply.ensures.transcript

pub returns-clause-ran : goal.returns-clause-ran
returns-clause-ran c =
    let kept : SessionValue = record {
      streams = c.self.inside.streams;
      settings = settings_told c.self.inside.settings;
      machine = c.self.inside.machine;
    } in
    rw (← c.self.view_is) (ok_then c.print_reply.result c.print_reply.ensures.ok (λ printed.
    event_answered kept c.step-reply.new.self (seen c.args.event) (heard c.step-reply.result) _ _ c.step-reply.ensures.transcript printed))
