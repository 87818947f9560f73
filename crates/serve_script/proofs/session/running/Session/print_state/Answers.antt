use Rattle.std.proofs.Common.{◌≡◌, sym, ◌∙◌, ap, slice_get}
use Rattle.serve_script.specs.SessionInside.{SessionValue}
use Rattle.serve_core.specs.declared.refusal.Refusal.TheVariants.{NoStream}
use Rattle.serve_script.specs.SessionLine.{refused_line}
use Rattle.serve_script.specs.SessionRun.{state_answer}
use Rattle.serve_script.proofs.Sessions.{account_lost, counts_lost, ok_then, state_answered, state_found}
use Rattle.serve_script.proofs.session.running.Session.print_state.Goals as goal
use Rattle.serve_script.proofs.session.running.Session.print_state.Goals.{in_default-via-in-Some+in_default, in_default-via-in_default}

pub returns-in-Some-Some-clause-ran : goal.returns-in-Some-Some-clause-ran
returns-in-Some-Some-clause-ran c =
    let stream = slice_get c.self.inside.machine.streams c.number_of-number.result in
    let shown = state_found stream c.in-Some-Some.account c.in-Some-Some.counts
    (sym c.account.ensures ∙ c.in-Some-Some.is-0) (sym c.counts.ensures ∙ c.in-Some-Some.is-1) in
    let here = ap (λ (kept : SessionValue). state_answer (slice_get kept.machine.streams c.number_of-number.result))
    (sym c.self.view_is) ∙ shown in
    ok_then c.push_state.result c.push_state.ensures.ok (λ printed.
    state_answered c.args.self.now c.args.name.now c.number_of-number.result _ _ _ c.number_of-number.ensures here printed)

pub returns-in_default-clause-ran : goal.returns-in_default-clause-ran
returns-in_default-clause-ran c =
    let stream = slice_get c.self.inside.machine.streams c.number_of-number.result in
    let shown : state_answer stream ≡ refused_line NoStream = elim c.in_default.branch [
      | in_default-via-in-Some+in_default w ↦ counts_lost stream (sym c.counts.ensures ∙ w.in_default.is-1)
      | in_default-via-in_default w ↦ account_lost stream (sym c.account.ensures ∙ w.in_default.is-0)
    ] in
    let here = ap (λ (kept : SessionValue). state_answer (slice_get kept.machine.streams c.number_of-number.result))
    (sym c.self.view_is) ∙ shown in
    ok_then c.push_refusal.result c.push_refusal.ensures.ok (λ printed.
    state_answered c.args.self.now c.args.name.now c.number_of-number.result _ _ _ c.number_of-number.ensures here printed)
