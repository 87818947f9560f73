-- The pixels of the image of one operation.
use Rattle.std.specs.Prelude.{ℕ, List}
use Rattle.frame_view.specs.declared.geometry.Geometry.{Geometry}
use Rattle.frame_view.specs.Places.{plane_width, plane_height}
use Rattle.frame_view.specs.Rows.{sample}
use Rattle.filters.specs.declared.op.Op.{Op}
use Rattle.filters.specs.Pixel.{Samples, pixel}
pub use Rattle.filters.specs.Ops.{HasGoodRadius, IsDoable, IsRectangleOf, image_height, image_width}

-- plane p of a frame of this geometry and these data
abbrev pub plane_of : Geometry → List ℕ → ℕ → Samples
plane_of g samples p = record { columns = plane_width g p; rows = plane_height g p; at = sample g samples p }

-- the sample in row y and column x of plane p of the image of a frame
abbrev pub image_pixel : Op → Geometry → List ℕ → ℕ → ℕ → ℕ → ℕ
image_pixel op g samples p y x = pixel op g.chroma p (plane_of g samples p) y x
