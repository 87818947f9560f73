use Rattle.std.proofs.Common.{◌≡◌, ◌++◌, ◌∙◌, codes, ap, refl, sym, subst}
use Rattle.serve_script.specs.ScriptReport.{line_text}
use Rattle.serve_script.specs.ScriptState.{InSetup, MayFault, TakesMemory}
use Rattle.serve_script.specs.SessionSetup.{settled}
use Rattle.serve_script.proofs.ScriptSteps.{ends_faulty}
use Rattle.serve_script.proofs.run.after_setup_line.Goals as goal

pub returns-in_err-push_line : goal.returns-in_err-push_line
returns-in_err-push_line c =
    ends_faulty _ c.from_residual.result _ _ c.from_residual.ensures.1 (λ fault none.
    subst (MayFault (λ given. given ≡ settled c.args.preparation)) (sym none)
    (λ given gives. subst TakesMemory (sym gives) tt)) c.in_err-push_line.ensures.err

pub returns : goal.returns
returns c = record {
  answer = codes "ok";
  next = InSetup c.args.preparation;
  gives = refl;
  stands = refl;
  printed = c.in_ok-push_line.ensures.ok ∙ ap (λ text. c.args.printed.now.items ++ line_text text) c.as_slice.ensures;
}
