use Rattle.std.proofs.Common.{◌≡◌, Some, ap, refl, rules, sym, subst, ◌∙◌}
use Rattle.std.specs.Option.{option_map}
use Rattle.serve_script.specs.ScriptFault.{fault_told}
use Rattle.serve_script.specs.ScriptState.{MayFault}
use Rattle.serve_script.specs.LineEnds.{RunLineGives}
use Rattle.serve_script.specs.SessionCommand.{run_of, run_told}
use Rattle.serve_script.proofs.ScriptSteps.{from_faulty, no_command, run_answers, run_bad, run_may_fault}
use Rattle.serve_script.proofs.run.run_session_line.Goals as goal

pub returns-in_err-command : goal.returns-in_err-command
returns-in_err-command c =
    let bad = no_command c.parse_run.result c.in_err-command.field-0.0 c.in_err-command.ensures.value in
    let none = sym c.parse_run.ensures.command ∙ ap (λ found. option_map run_told found) bad.0 in
    from_faulty _ _ c.from_residual.result _ _ c.from_residual.ensures.1 (λ fault same session here.
    subst (λ own. MayFault (RunLineGives c.args.line.now session) (fault_told own)) (sym (same ∙ bad.1))
    (run_bad session c.args.line.now none)) refl

pub returns-in_err-run : goal.returns-in_err-run
returns-in_err-run c =
    let is : run_of c.args.line.now ≡ Some (run_told c.in_ok-command.command) = search rules in
    from_faulty _ _ c.from_residual-in_err-run.result _ _ c.from_residual-in_err-run.ensures.1 (λ fault same session here.
    subst (λ own. MayFault (RunLineGives c.args.line.now session) (fault_told own)) (sym same)
    (run_may_fault session c.args.line.now _ _ is (c.in_err-run.ensures.fault session here))) c.in_err-run.ensures.keeps_printed

pub returns : goal.returns
returns c = λ session here.
    let is : run_of c.args.line.now ≡ Some (run_told c.in_ok-command.command) = search rules in
    run_answers session _ c.args.line.now _ _ _ is (c.in_ok-run.ensures.ran session here)
