use Rattle.std.proofs.Common.{arith, ◌≡◌}
use Rattle.frame_view.specs.Places.{plane_start, plane_width, plane_height}
use Rattle.std.proofs.lemmas.Grind.{common_steps}
use Rattle.frame_view.proofs.geometry.Geometry.plane_start.Goals as goal

pub returns-in-1-clause-value : goal.returns-in-1-clause-value
unfolding plane_start
returns-in-1-clause-value c = rw c.in-1.is (grind (arith, common_steps))

pub returns-in-2-clause-value : goal.returns-in-2-clause-value
unfolding plane_start plane_width plane_height
returns-in-2-clause-value c = rw c.in-2.is (grind (arith, common_steps))

pub returns-in-3-clause-value : goal.returns-in-3-clause-value
unfolding plane_start plane_width plane_height
returns-in-3-clause-value c = rw c.in-3.is (grind (arith, common_steps))

pub returns-in_default-clause-value : goal.returns-in_default-clause-value
unfolding plane_start plane_width plane_height
returns-in_default-clause-value c = let e : c.args.p ≡ 4 = omega arith in rw e (grind (arith, common_steps))
