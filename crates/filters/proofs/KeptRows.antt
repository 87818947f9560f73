-- Rows of the image of an operation that keeps the format.
use Rattle.std.proofs.Common.{◌≡◌, ℕ, ◌-◌, ◌*◌, ◌<◌, ◌≤◌, List, length, ap, subst, sym, ◌∙◌}
use Rattle.y4m_header.specs.Chroma.{plane_count}
use Rattle.frame_view.specs.declared.geometry.Geometry.{Geometry}
use Rattle.frame_view.specs.Places.{plane_width, plane_height}
use Rattle.frame_view.specs.Written.{IsRows}
use Rattle.filters.specs.declared.op.Op.{Op}
use Rattle.filters.specs.declared.rows.RowSpan.{RowSpan}
use Rattle.filters.specs.Chain.{format_of}
use Rattle.filters.specs.Image.{image_pixel}
use Rattle.filters.specs.Rows.{IsSpanOf}
use Rattle.filters.proofs.ChainGeometry.{same_geometry}

-- they are rows of the source too
pub kept_span : (g target : Geometry) (span : RowSpan) (slice : List ℕ) → format_of target ≡ format_of g
    → span.p < plane_count target.chroma → span.from ≤ span.to → span.to ≤ plane_height target span.p
    → span.columns ≡ plane_width target span.p
    → length slice ≡ (span.to - span.from) * plane_width target span.p
    → IsSpanOf g span slice
kept_span g target span slice same plane order inside width sized =
    subst (λ z. IsSpanOf z span slice) (same_geometry target g same) (record {
      plane = plane;
      order = order;
      inside = inside;
      width = width;
      sized = sized ∙ ap (λ w. (span.to - span.from) * w) (sym width);
    })

pub kept_rows : (op own : Op) (g target : Geometry) (samples rows : List ℕ) (p from to : ℕ) → op ≡ own
    → format_of target ≡ format_of g
    → IsRows (image_pixel own g samples) g p from to rows
    → IsRows (image_pixel op g samples) target p from to rows
kept_rows op own g target samples rows p from to e same is = rw (e, same_geometry target g same) is
