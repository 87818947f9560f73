use Rattle.std.proofs.Common.{ap, refl, subst, sym, ◌∙◌}
use Rattle.serve_script.specs.AccountScript.{AccountGives}
use Rattle.serve_script.specs.ScriptFault.{fault_told}
use Rattle.serve_script.specs.ScriptState.{MayFault}
use Rattle.serve_script.proofs.AccountLines.{account_bad, account_faults, account_lacks}
use Rattle.serve_script.proofs.ScriptSteps.{account_answered, from_faulty, no_command}
use Rattle.serve_script.proofs.account.run_account_line.Goals as goal

pub returns-in_err-command : goal.returns-in_err-command
returns-in_err-command c =
    let line = c.args.line.now in
    let bad = no_command c.parse_command.result c.in_err-command.field-0.0 c.in_err-command.ensures.value in
    from_faulty _ _ c.from_residual.result _ _ c.from_residual.ensures.1 (λ fault same past there.
    subst (λ own. MayFault (AccountGives line past) (fault_told own)) (sym (same ∙ bad.1))
    (account_bad line past (sym c.parse_command.ensures.command ∙ bad.0))) refl

pub returns-in_err-next : goal.returns-in_err-next
returns-in_err-next c =
    let line = c.args.line.now in
    let is = sym c.parse_command.ensures.command ∙ c.in_ok-command.ensures.ok_part in
    from_faulty _ _ c.from_residual-in_err-next.result _ _ c.from_residual-in_err-next.ensures.1 (λ fault same past there.
    subst (MayFault (AccountGives line past)) (sym (ap fault_told same ∙ c.in_err-next.ensures.fault))
    (account_faults line past c.in_ok-command.command c.args.account is there c.in_err-next.ensures.cannot)) refl

pub returns-in_err-push_balance : goal.returns-in_err-push_balance
returns-in_err-push_balance c =
    let line = c.args.line.now in
    let is = sym c.parse_command.ensures.command ∙ c.in_ok-command.ensures.ok_part in
    from_faulty _ _ c.from_residual-in_err-push_balance.result _ _ c.from_residual-in_err-push_balance.ensures.1 (λ fault none past there.
    subst (MayFault (AccountGives line past)) (sym none)
    (account_lacks line past c.in_ok-command.command c.args.account is there c.in_ok-next.ensures.can)) c.in_err-push_balance.ensures.err

pub returns : goal.returns
returns c =
    let is = sym c.parse_command.ensures.command ∙ c.in_ok-command.ensures.ok_part in
    account_answered c.args.account c.args.line.now c.in_ok-command.command c.in_ok-next.next _ _ is
    c.in_ok-next.ensures.can c.in_ok-next.ensures.next
    (rw (c.budget.ensures.value, c.deadline.ensures.value, c.as_slice.ensures) at c.in_ok-push_balance.ensures.ok)
