use Rattle.std.proofs.Common.{rules}
use Rattle.frame_view.proofs.Geometries.{same_geometry}
use Rattle.frame_view.proofs.same.is_same_frame.Goals as goal
use Rattle.frame_view.proofs.same.is_same_frame.Goals.{then-eq, else-eq}

pub returns-then-eq-2 : goal.returns-then-eq-2
returns-then-eq-2 c = elim c.if-eq.branch [
  | then-eq w ↦ (
    (λ yes. record {
      geometry = same_geometry _ _ (search rules) (search rules) (search rules);
      line = search rules;
      samples = search rules;
    }),
    (λ same. search rules),
  )
  | else-eq w ↦ search rules
]
