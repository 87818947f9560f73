-- Rows of a plane of a frame, one after another, and those of an image.
use Rattle.std.specs.Prelude.{◌≡◌, ℕ, ◌-◌, ◌*◌, ◌<◌, ◌≤◌, List, length}
use Rattle.y4m_header.specs.Chroma.{plane_count}
use Rattle.frame_view.specs.declared.geometry.Geometry.{Geometry}
use Rattle.frame_view.specs.declared.frame.Frame.{Frame}
use Rattle.frame_view.specs.Places.{plane_width, plane_height}
use Rattle.frame_view.specs.Frame.{samples_of}
use Rattle.frame_view.specs.Written.{IsRows}
use Rattle.filters.specs.declared.op.Op.{Op}
use Rattle.filters.specs.declared.rows.RowSpan.{RowSpan}
use Rattle.filters.specs.Image.{image_pixel}

-- frames of this geometry have these rows, and their samples fit a slice
pub record IsSpanOf (g : Geometry) (span : RowSpan) (slice : List ℕ) : Type 0 where
  pub plane : span.p < plane_count g.chroma
  pub order : span.from ≤ span.to
  pub inside : span.to ≤ plane_height g span.p
  pub width : span.columns ≡ plane_width g span.p
  pub sized : length slice ≡ (span.to - span.from) * span.columns

-- the slice holds these rows of the image of a frame; the image has this geometry
abbrev pub AreImageRows : Op → Frame → Geometry → RowSpan → List ℕ → Type 0
AreImageRows op source g span slice =
    IsRows (image_pixel op source.geometry (samples_of source)) g span.p span.from span.to slice
