use Rattle.std.proofs.Common.{refl}
use Rattle.std.proofs.lemmas.Result.{err_from_is_err_and}
use Rattle.serve_core.specs.Setup.{IsSetup}
use Rattle.serve_script.specs.SessionSetup.{prepared_setup}
use Rattle.serve_script.proofs.SetupFaults.{start_lost}
use Rattle.serve_script.proofs.session.preparation.Preparation.start.Goals as goal

pub returns-in_err-new-in-Ok-clause-fault : goal.returns-in_err-new-in-Ok-clause-fault
returns-in_err-new-in-Ok-clause-fault c =
    let p = err_from_is_err_and c.from_residual.result c.from_residual.ensures.1 in
    let is : IsSetup (prepared_setup c.args.self) = rw (← c.self.view_is) (c.in-Ok.ensures.accepted.0 refl) in
    rw (p.1, p.2) (start_lost c.args.self is)
