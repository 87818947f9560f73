use Rattle.std.proofs.Common.{rules, ◌≡◌, ◌∙◌, arith, refl, sym}
use Rattle.std.specs.Arc.{arc_value}
use Rattle.frame_view.proofs.Geometries.{same_geometry}
use Rattle.serve_core.proofs.spec.StreamSpec.is_same.Goals as goal

pub returns : goal.returns
returns c =
    let mine = c.self.inside in
    let its = c.other.inside in
    let geometry : mine.geometry ≡ its.geometry = same_geometry _ _ (search rules) (search rules) (search rules) in
    let chain : arc_value mine.job ≡ arc_value its.job = search (rules, c.is_same_spec.ensures) in
    let maximum : mine.maximum ≡ its.maximum = omega (arith, c.if-self-other.false) in
    let period : mine.period ≡ its.period = omega (arith, c.if-self-other-2.false) in
    let queue : mine.queue ≡ its.queue = omega (arith, c.if-self-other-3.false) in
    let outbox : mine.outbox ≡ its.outbox = omega (arith, c.if-self-other-4.false) in
    let frames : mine.frames ≡ its.frames = omega (arith, c.if-self-other-5.false) in (
      λ _. sym c.self.view_is ∙ rw (geometry, chain, maximum, period, queue, outbox, frames) refl ∙ c.other.view_is,
      λ _. refl,
    )
