use Rattle.std.proofs.Common.{subst}
use Rattle.serve_core.specs.Setup.{StreamSpec}
use Rattle.serve_hub.specs.Answers.{RefusesAdmission}
use Rattle.serve_hub.proofs.book.Book.admit.Goals as goal

pub returns-in-Err-admit_newcomer-clause-refused : goal.returns-in-Err-admit_newcomer-clause-refused
returns-in-Err-admit_newcomer-clause-refused c =
    let e = c.in-Err-admit_newcomer in
    subst (λ (spec : StreamSpec). RefusesAdmission c.args.self.now spec e.refusal) c.in-Ok.ensures.newcomer e.ensures.refused
