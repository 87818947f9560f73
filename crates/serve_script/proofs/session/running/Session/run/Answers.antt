use Rattle.std.proofs.Common.{ap, ◌∙◌}
use Rattle.std.proofs.lemmas.Result.{err_from_is_err_and}
use Rattle.serve_core.specs.Events as events
use Rattle.serve_core.specs.Seen.{seen}
use Rattle.serve_script.specs.SessionCommand as forms
use Rattle.serve_script.specs.SessionCommand.{run_told}
use Rattle.serve_script.specs.SessionRun.{stream_named}
use Rattle.serve_script.proofs.Arrivals.{arrival_alone, arrival_gives}
use Rattle.serve_script.proofs.Sessions.{answered_as, named_event}
use Rattle.serve_script.proofs.session.running.Session.run.Goals as goal
use Rattle.serve_script.proofs.session.running.Session.run.Goals.{in-Arrive+in_ok-event-in-Arrive, in-Lease}
use Rattle.serve_script.proofs.session.running.Session.run.Goals.{in-Step, in-Settle, in-Tick, in-Close}
use Rattle.serve_script.proofs.session.running.Session.run.Goals.{in-Collect}

pub returns-in_err-event-in-Arrive-clause-fault : goal.returns-in_err-event-in-Arrive-clause-fault
returns-in_err-event-in-Arrive-clause-fault c =
    let passed = err_from_is_err_and c.from_residual.result c.from_residual.ensures.1 in
    rw (passed.1, passed.2, c.in-Arrive.is) c.in_err-event-in-Arrive.ensures.fault

pub returns-in-Admit-clause-ran : goal.returns-in-Admit-clause-ran
returns-in-Admit-clause-ran c = rw c.in-Admit.is c.admit.ensures.ran

pub returns-clause-ran : goal.returns-clause-ran
returns-clause-ran c = λ session stands.
    let kept = c.args.self.now in
    let ran = c.in_ok-run_event.ensures.ran session stands in
    elim c.match-command.branch [
      | in-Arrive+in_ok-event-in-Arrive w ↦
          let name = w.in-Arrive.name.now in
          let hex = w.in-Arrive.hex.now in
          answered_as _ _ _ session _ (seen w.in_ok-event-in-Arrive.event) _ (forms.Arrive name hex)
          (ap seen w.event-is) (ap run_told w.in-Arrive.is)
          (arrival_alone session name hex (seen w.in_ok-event-in-Arrive.event) (w.in_ok-event-in-Arrive.ensures.ok session stands))
          (arrival_gives session name hex (seen w.in_ok-event-in-Arrive.event) (w.in_ok-event-in-Arrive.ensures.ok session stands)) ran
      | in-Lease w ↦
          answered_as _ _ _ session _ (events.Lease w.in-Lease.worker) _ (forms.Lease w.in-Lease.worker)
          (ap seen w.event-is) (ap run_told w.in-Lease.is)
          tt (λ given gives. gives) ran
      | in-Step w ↦
          answered_as _ _ _ session _ (events.Band w.in-Step.worker) _ (forms.Step w.in-Step.worker)
          (ap seen w.event-is) (ap run_told w.in-Step.is)
          tt (λ given gives. gives) ran
      | in-Settle w ↦
          answered_as _ _ _ session _ (events.Settle w.in-Settle.worker) _ (forms.Settle w.in-Settle.worker)
          (ap seen w.event-is) (ap run_told w.in-Settle.is)
          tt (λ given gives. gives) ran
      | in-Tick w ↦
          answered_as _ _ _ session _ (events.Tick w.in-Tick.moment) _ (forms.Tick w.in-Tick.moment)
          (ap seen w.event-is) (ap run_told w.in-Tick.is)
          tt (λ given gives. gives) ran
      | in-Close w ↦
          let name = w.in-Close.name.now in
          answered_as _ _ _ session _ (events.Close (stream_named session.names name)) _ (forms.Close name)
          (ap seen w.event-is ∙ named_event kept session name w.number_of.result (λ n. events.Close n) w.number_of.ensures stands)
          (ap run_told w.in-Close.is) tt (λ given gives. gives) ran
      | in-Collect w ↦
          let name = w.in-Collect.name.now in
          answered_as _ _ _ session _ (events.Collect (stream_named session.names name)) _ (forms.Collect name)
          (ap seen w.event-is
          ∙ named_event kept session name w.number_of-in-Collect.result (λ n. events.Collect n) w.number_of-in-Collect.ensures stands)
          (ap run_told w.in-Collect.is) tt (λ given gives. gives) ran
    ]
