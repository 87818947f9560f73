use Rattle.std.proofs.Common.{◌≡◌, Some, ap, refl, rules, subst, sym, ◌∙◌}
use Rattle.std.specs.Option.{option_map}
use Rattle.serve_script.specs.ScriptFault.{fault_told}
use Rattle.serve_script.specs.ScriptReport.{SetupLineGives}
use Rattle.serve_script.specs.ScriptState.{MayFault}
use Rattle.serve_script.specs.SessionCommand.{setup_of, setup_told}
use Rattle.serve_script.proofs.ScriptSteps.{ends_faulty, no_command}
use Rattle.serve_script.proofs.SetupSteps.{setup_bad, setup_ends}
use Rattle.serve_script.proofs.run.run_setup_line.Goals as goal

pub returns-in_err-command : goal.returns-in_err-command
returns-in_err-command c =
    let bad = no_command c.parse_setup.result c.in_err-command.field-0.0 c.in_err-command.ensures.value in
    let none = sym c.parse_setup.ensures ∙ ap (λ found. option_map setup_told found) bad.0 in
    ends_faulty _ c.from_residual.result _ _ c.from_residual.ensures.1 (λ fault same.
    subst (λ own. MayFault (SetupLineGives c.args.preparation c.args.line.now) (fault_told own)) (sym (same ∙ bad.1))
    (setup_bad c.args.preparation c.args.line.now none)) refl

pub returns : goal.returns
returns c =
    let is : setup_of c.args.line.now ≡ Some (setup_told c.in_ok-command.command) = search rules in
    setup_ends _ c.args.line.now _ c.run_setup.result _ _ is c.run_setup.ensures
