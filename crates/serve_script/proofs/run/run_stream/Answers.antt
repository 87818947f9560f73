use Rattle.std.proofs.Common.{◌++◌, ◌∙◌, length, ap, refl, sym, subst}
use Rattle.serve_script.specs.ScriptFault.{fault_told}
use Rattle.serve_script.specs.ScriptReport.{line_text}
use Rattle.serve_script.specs.ScriptState.{InSetup, MayFault}
use Rattle.serve_script.specs.SessionCommand.{stream_told}
use Rattle.serve_script.specs.SessionSetup.{StreamGives, stream_line}
use Rattle.serve_script.proofs.ScriptSteps.{ends_faulty}
use Rattle.serve_script.proofs.SetupSteps.{stream_unkept}
use Rattle.serve_script.proofs.run.run_stream.Goals as goal

pub returns-in_err-next : goal.returns-in_err-next
returns-in_err-next c =
    ends_faulty _ c.from_residual.result _ _ c.from_residual.ensures.1 (λ fault same.
    subst (λ own. MayFault (StreamGives c.args.preparation (stream_told c.args.stream)) (fault_told own)) (sym same)
    c.in_err-next.ensures.fault) refl

pub returns-in_err-push_stream : goal.returns-in_err-push_stream
returns-in_err-push_stream c =
    ends_faulty _ c.from_residual-in_err-push_stream.result _ _ c.from_residual-in_err-push_stream.ensures.1 (λ fault none.
    subst (MayFault (StreamGives c.args.preparation (stream_told c.args.stream))) (sym none)
    (stream_unkept c.args.preparation (stream_told c.args.stream) _ _ c.in_ok-next.ensures.ok)) c.in_err-push_stream.ensures.err

pub returns : goal.returns
returns c = record {
  answer = stream_line (length c.args.preparation.streams);
  next = InSetup c.in_ok-next.next;
  gives = c.in_ok-next.ensures.ok;
  stands = refl;
  printed = c.in_ok-push_stream.ensures.ok
      ∙ ap (λ number. c.args.printed.now.items ++ line_text (stream_line number)) c.count-number.ensures;
}
