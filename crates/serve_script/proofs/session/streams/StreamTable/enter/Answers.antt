use Rattle.std.proofs.Common.{◌≡◌, Ok, false, sym, ◌∙◌}
use Rattle.std.proofs.lemmas.Result.{err_from_is_err_and}
use Rattle.serve_script.specs.SessionCommand.{stream_told}
use Rattle.serve_script.specs.SessionInside.{settings_told}
use Rattle.serve_script.specs.StreamLine.{is_taken}
use Rattle.serve_script.proofs.StreamGiven.{asked_late, asks_free}
use Rattle.serve_script.proofs.session.streams.StreamTable.enter.Goals as goal

pub returns-in_err-push-clause-fault : goal.returns-in_err-push-clause-fault
returns-in_err-push-clause-fault c =
    let p = err_from_is_err_and c.from_residual-in_err-push.result c.from_residual-in_err-push.ensures.1 in
    let names = c.args.self.now.names in
    let settings = settings_told c.args.settings in
    let form = stream_told c.args.stream in
    let free : is_taken form.name names ≡ false = sym c.has.ensures ∙ c.if-has.false in
    rw (p.1, p.2)
    (asked_late names settings form c.in_ok-spec.spec (asks_free names settings form (Ok c.in_ok-spec.spec) free c.in_ok-spec.ensures.ok))
