use Rattle.std.proofs.Common.{◌++◌, ◌∙◌, codes, ap, refl, sym, subst}
use Rattle.serve_script.specs.ScriptFault.{fault_told}
use Rattle.serve_script.specs.ScriptReport.{line_text}
use Rattle.serve_script.specs.ScriptState.{InSession, MayFault}
use Rattle.serve_script.specs.SessionSetup.{StartGives, begun}
use Rattle.serve_script.proofs.ScriptSteps.{ends_faulty}
use Rattle.serve_script.proofs.SetupSteps.{start_unkept}
use Rattle.serve_script.proofs.run.run_start.Goals as goal

pub returns-in_err-session : goal.returns-in_err-session
returns-in_err-session c =
    ends_faulty _ c.from_residual.result _ _ c.from_residual.ensures.1 (λ fault same.
    subst (λ own. MayFault (StartGives c.args.preparation) (fault_told own)) (sym same) c.in_err-session.ensures.fault) refl

pub returns-in_err-push_line : goal.returns-in_err-push_line
returns-in_err-push_line c =
    ends_faulty _ c.from_residual-in_err-push_line.result _ _ c.from_residual-in_err-push_line.ensures.1 (λ fault none.
    subst (MayFault (StartGives c.args.preparation)) (sym none)
    (start_unkept c.args.preparation c.in_ok-session.ensures.ok)) c.in_err-push_line.ensures.err

pub returns : goal.returns
returns c = record {
  answer = codes "started";
  next = InSession (begun c.args.preparation);
  gives = c.in_ok-session.ensures.ok;
  stands = (begun c.args.preparation, refl, c.in_ok-session.ensures.at_beginning);
  printed = c.in_ok-push_line.ensures.ok ∙ ap (λ text. c.args.printed.now.items ++ line_text text) c.as_slice.ensures;
}
