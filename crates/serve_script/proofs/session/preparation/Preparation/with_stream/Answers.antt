use Rattle.std.proofs.Common.{Ok, Result, refl, subst}
use Rattle.std.proofs.lemmas.Result.{err_from_is_err_and}
use Rattle.serve_core.specs.Setup.{StreamSpec}
use Rattle.serve_script.specs.ScriptFault.{Fault, fault_told}
use Rattle.serve_script.specs.ScriptState.{Preparation}
use Rattle.serve_script.specs.SessionCommand.{stream_told}
use Rattle.serve_script.specs.SessionInside.{MayLack}
use Rattle.serve_script.specs.StreamLine.{AsksFor}
use Rattle.serve_script.proofs.SetupSteps.{stream_faults, stream_lost}
use Rattle.serve_script.proofs.StreamGiven.{table_more}
use Rattle.serve_script.proofs.session.preparation.Preparation.with_stream.Goals as goal

pub returns-in_err-spec-clause-fault : goal.returns-in_err-spec-clause-fault
returns-in_err-spec-clause-fault c =
    let p = err_from_is_err_and c.from_residual.result c.from_residual.ensures.1 in
    let form = stream_told c.args.stream in
    let fault = fault_told c.in_err-spec.field-0.0 in
    rw (p.1, p.2)
    (stream_faults c.args.self form fault
    (subst (λ (p : Preparation). MayLack (AsksFor p.names p.settings form) fault) c.self.view_is c.in_err-spec.ensures.fault))

pub returns-in_err-push-clause-fault : goal.returns-in_err-push-clause-fault
returns-in_err-push-clause-fault c =
    let p = err_from_is_err_and c.from_residual-in_err-push.result c.from_residual-in_err-push.ensures.1 in
    let form = stream_told c.args.stream in
    let asked : Result StreamSpec Fault = Ok c.in_ok-spec.spec in
    rw (p.1, p.2)
    (stream_lost c.args.self form c.in_ok-spec.spec
    (subst (λ (p : Preparation). AsksFor p.names p.settings form asked) c.self.view_is c.in_ok-spec.ensures.asked))

pub returns-clause-ok : goal.returns-clause-ok
returns-clause-ok c =
    let form = stream_told c.args.stream in
    let asked : Result StreamSpec Fault = Ok c.in_ok-spec.spec in (
      asked,
      subst (λ (p : Preparation). AsksFor p.names p.settings form asked) c.self.view_is c.in_ok-spec.ensures.asked,
      rw (← c.self.view_is, c.in_ok-spec.ensures.entered, c.in_ok-push.ensures.items) refl,
    )

pub invariant_of-result : goal.invariant_of-result
invariant_of-result c =
    rw (c.in_ok-spec.ensures.entered, c.in_ok-push.ensures.items)
    (table_more c.self.inside.streams c.self.inside.specs.items c.args.stream.name.now c.in_ok-spec.spec c.self.invariant)
