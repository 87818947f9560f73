use Rattle.std.proofs.Common.{refl, sym, subst}
use Rattle.serve_script.specs.ScriptFault.{fault_told}
use Rattle.serve_script.specs.ScriptState.{MayFault}
use Rattle.serve_script.specs.SessionSetup.{BandGives}
use Rattle.serve_script.proofs.ScriptSteps.{ends_faulty}
use Rattle.serve_script.proofs.SetupSteps.{band_ends}
use Rattle.serve_script.proofs.run.run_band.Goals as goal

pub returns-in_err-next : goal.returns-in_err-next
returns-in_err-next c =
    ends_faulty _ c.from_residual.result _ _ c.from_residual.ensures.1 (λ fault same.
    subst (λ own. MayFault (BandGives c.args.preparation c.args.rows) (fault_told own)) (sym same) c.in_err-next.ensures.fault) refl

pub returns : goal.returns
returns c = band_ends c.args.preparation c.in_ok-next.next c.args.rows c.after_setup_line.result _ _ c.in_ok-next.ensures.ok c.after_setup_line.ensures
