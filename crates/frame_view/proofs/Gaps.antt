-- The bytes between two rows.
use Rattle.std.proofs.Common.{ℕ, ◌≡◌, ◌+◌, ◌*◌, ◌-◌, ◌<◌, ◌≤◌, arith, ap, ◌∙◌}
use Rattle.frame_view.specs.declared.geometry.Geometry.{Geometry}
use Rattle.frame_view.specs.Places.{plane_width, row_start}

times_gap : (a d w : ℕ) → (a + d) * w ≡ a * w + d * w
times_gap a d w = grind arith

pub gap : (a b w : ℕ) → a ≤ b → b * w ≡ a * w + (b - a) * w
gap a b w h = ap (λ z. z * w) (let e : b ≡ a + (b - a) = omega arith in e) ∙ times_gap a (b - a) w

-- the bytes from one row to another
pub row_gap : (g : Geometry) (p a b : ℕ) → a ≤ b → row_start g p b - row_start g p a ≡ (b - a) * plane_width g p
row_gap g p a b h = omega (arith, gap a b (plane_width g p) h)

pub row_below : (a b x w : ℕ) → a < b → x < w → a * w + x < b * w
row_below a b x w h l = omega (arith, gap a b w (omega arith), gap (a + 1) b w (omega arith), times_gap a 1 w)
