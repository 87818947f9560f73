use Rattle.std.proofs.Common.{[], ◌∷◌, ◌++◌, sym, ◌∙◌, ap}
use Rattle.serve_core.specs.declared.collected.Collected.{Collected}
use Rattle.serve_core.specs.Streams.{GainsImage, KeptStream}
use Rattle.serve_core.proofs.Items.Options.{and_some}
use Rattle.serve_core.proofs.Schedules.Jobs.{gains}
use Rattle.serve_core.proofs.stream.Stream.finish.Goals as goal

pub returns-clause-number : goal.returns-clause-number
returns-clause-number c = c.finish-number.ensures.number ∙ ap (λ (l : KeptStream). l.state.finished) c.self.view_is

pub returns-clause-image : goal.returns-clause-image
returns-clause-image c =
    let made = c.into_image-source in
    let pair : Collected = record { source = made.result.0; image = made.result.1 } in
    let old = c.args.self.now.images in
    let new = c.try_push_back.new.self.items in
    let lent = sym (ap (λ (l : KeptStream). l.leased) c.self.view_is) ∙ sym c.take.ensures.value ∙ c.in-Some.is in
    let behind = ap (λ b. b.items) c.in-Ok.ensures.ok
    ∙ ap (λ (l : KeptStream). l.images ++ pair ∷ []) c.self.view_is in
    and_some c.args.self.now.leased (λ job. GainsImage job old new) c.in-Some.job lent
    (gains c.in-Some.job old new pair made.ensures.source behind)
