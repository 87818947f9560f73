use Rattle.std.proofs.Common.{List, subst, sym}
use Rattle.serve_core.specs.Admitted.{IsFault}
use Rattle.serve_core.specs.Setup.{StreamSpec, setup_of}
use Rattle.serve_work.specs.Live.{AllowsRefusal}
use Rattle.serve_work.proofs.Seating.{refused_alone}
use Rattle.serve_work.proofs.live.opening.setup_of.Goals as goal

pub returns-in-Err-clause-refused : goal.returns-in-Err-clause-refused
returns-in-Err-clause-refused c =
    let fault = c.in-Err.fault in
    let form = c.args.form in
    subst (AllowsRefusal c.args.spec) (sym c.refusal_of.ensures)
    (refused_alone form.workers form.quantum c.args.spec fault form.in_range
    (subst (λ (specs : List StreamSpec). IsFault fault (setup_of form.workers form.quantum specs)) c.in-Ok.ensures
    c.in-Err.ensures.refused))
