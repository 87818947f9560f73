use Rattle.std.proofs.Common.{refl, sym, ◌∙◌}
use Rattle.std.proofs.lemmas.List.{nil_from_length}
use Rattle.serve_report.proofs.Openings.{moved_all, moved_more}
use Rattle.serve_report.proofs.serve.opening.place_all.Goals as goal

pub loop-asked-preserved : goal.loop-asked-preserved
loop-asked-preserved c =
    rw c.in_ok-push.ensures.items (moved_more _ _ _ _ _ _ c.in-Some.ensures.steps.0 refl ∙ c.loop-asked.invariant)

pub returns : goal.returns
returns c =
    let left = c.loop-asked.asked-iterator.rest in
    moved_all _ _ _ _ (nil_from_length left.items (sym left.ok.0 ∙ c.in-None.ensures.steps.0)) c.loop-asked.invariant
