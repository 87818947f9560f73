use Rattle.std.proofs.Common.{Ok, Result, subst, sym}
use Rattle.std.proofs.lemmas.Result.{err_from_is_err_and}
use Rattle.serve_core.specs.Seen.{heard}
use Rattle.serve_core.specs.Setup.{StreamSpec}
use Rattle.serve_script.specs.ScriptFault.{Fault}
use Rattle.serve_script.specs.SessionCommand.{stream_told}
use Rattle.serve_script.specs.SessionInside.{IsAt, IsRunning, SessionValue, Streams, settings_told}
use Rattle.serve_script.specs.StreamLine.{AsksFor}
use Rattle.serve_script.proofs.Admits.{admit_answered, admit_unprinted, running_after, settled_table}
use Rattle.serve_script.proofs.session.running.Session.admit.Goals as goal

pub invariant_of-self-2 : goal.invariant_of-self-2
invariant_of-self-2 c =
    let before = c.self.inside.streams in
    let name = c.args.stream.name.now in
    let reply = heard c.step-reply.result in
    let counts = c.count-count.ensures in
    let left = settled_table before c.enter.new.self c.keep_admitted.new.self name c.in_ok-spec.spec c.count-count.result reply
    counts.names counts.geometries c.in_ok-spec.ensures.entered c.keep_admitted.ensures in
    subst (λ (streams : Streams). IsRunning streams c.step-reply.new.self) (sym left)
    (running_after before name c.in_ok-spec.spec c.self.inside.machine c.step-reply.new.self reply c.self.invariant
    c.step-reply.ensures.state c.step-reply.ensures.transcript)

pub returns-in_err-print_reply-clause-fault : goal.returns-in_err-print_reply-clause-fault
returns-in_err-print_reply-clause-fault c =
    let p = err_from_is_err_and c.from_residual-in_err-print_reply.result c.from_residual-in_err-print_reply.ensures.1 in
    let form = stream_told c.args.stream in
    let asked : Result StreamSpec Fault = Ok c.in_ok-spec.spec in
    rw (p.1, p.2)
    (admit_unprinted c.args.self.now form c.in_ok-spec.spec
    (subst (λ (kept : SessionValue). AsksFor kept.streams.names kept.settings form asked) c.self.view_is c.in_ok-spec.ensures.asked))

pub returns-clause-ran : goal.returns-clause-ran
returns-clause-ran c = λ session stands.
    let kept : SessionValue = record {
      streams = c.self.inside.streams;
      settings = settings_told c.self.inside.settings;
      machine = c.self.inside.machine;
    } in
    let form = stream_told c.args.stream in
    let reply = heard c.step-reply.result in
    let counts = c.count-count.ensures in
    let left = settled_table kept.streams c.enter.new.self c.keep_admitted.new.self form.name c.in_ok-spec.spec c.count-count.result reply
    counts.names counts.geometries c.in_ok-spec.ensures.entered c.keep_admitted.ensures in
    admit_answered kept c.keep_admitted.new.self c.step-reply.new.self form c.in_ok-spec.spec reply _ _ c.in_ok-spec.ensures.asked left
    c.step-reply.ensures.transcript c.in_ok-print_reply.ensures.ok session
    (subst (λ (kept : SessionValue). IsAt kept session) (sym c.self.view_is) stands)
