use Rattle.std.proofs.Common.{IsOk, IsErr, Result, Ok, Err, subst}
use Rattle.serve_core.specs.Admitted.{IsRefusal}
use Rattle.serve_core.proofs.Rules.Admissions.{not_refused}
use Rattle.serve_core.proofs.setup.Setup.new.Goals as goal

not_both : {T E : Type 0} (r : Result T E) → IsOk r → IsErr r → ⊥
not_both (Ok x) ok err = absurd (cc)
not_both (Err e) ok err = absurd (cc)

pub returns-in_err-admit_all-clause-accepted : goal.returns-in_err-admit_all-clause-accepted
returns-in_err-admit_all-clause-accepted c =
    let e = c.in_err-admit_all.field-0.0 in
    let told : IsRefusal e c.args.workers c.deref-2.result.now = c.in_err-admit_all.ensures.err in
    let refusal = subst (IsRefusal e c.args.workers) c.deref-2.ensures.value told in (
      λ ok. absurd (not_both c.from_residual.result ok c.from_residual.ensures.0),
      λ h. absurd (not_refused e c.args.workers c.args.streams.items refusal h.0.bandwidths h.1),
    )
