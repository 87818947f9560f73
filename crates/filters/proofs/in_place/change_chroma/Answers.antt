use Rattle.std.proofs.Common.{refl, ◌∙◌}
use Rattle.std.proofs.lemmas.Simd.{splat_is_map}
use Rattle.filters.proofs.in_place.change_chroma.Goals as goal

pub returns-in-Threshold : goal.returns-in-Threshold
returns-in-Threshold c =
    rw c.in-Threshold.is (c.fill.ensures.after (λ y e. e) ∙ splat_is_map c.args.samples.now _ 128 refl)
