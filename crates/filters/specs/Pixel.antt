-- What each operation makes of a picture: one formula for each pixel.
use Rattle.std.specs.Prelude.{ℕ, ◌+◌, ◌-◌, ◌/◌, min, max, nat_le, ◌==◌, if◌then◌else◌}
use Rattle.y4m_header.specs.declared.chroma.Chroma.{Chroma}
use Rattle.y4m_header.specs.Chroma.{horizontal_divisor, vertical_divisor}
use Rattle.frame_view.specs.Places.{by_plane, is_chroma_plane}
use Rattle.filters.specs.declared.op.Op.{Op}
use Rattle.filters.specs.declared.op.Op.TheVariants.{Table, HFlip, VFlip, Crop, Blur}
use Rattle.filters.specs.declared.op.Table.{Table as TableOp}
use Rattle.filters.specs.declared.op.Table.TheVariants.{Invert, Threshold, Clamp}
use Rattle.filters.specs.Blur.{blurred}

-- the samples of a plane, by row and column
pub record Samples : Type 0 where
  pub columns : ℕ
  pub rows : ℕ
  pub at : ℕ → ℕ → ℕ

-- what plane 0 has in place of v
abbrev pub luma_entry : TableOp → ℕ → ℕ
luma_entry Invert v = 255 - v
luma_entry (Threshold limit) v = if nat_le limit v then 255 else 0
luma_entry (Clamp low high) v = min (max v low) high

-- what a chroma plane has in place of v
abbrev pub chroma_entry : TableOp → ℕ → ℕ
chroma_entry Invert v = 255 - v
chroma_entry (Threshold limit) v = 128
chroma_entry (Clamp low high) v = v

-- what plane p has in place of v; plane 3 is kept
abbrev pub entry : TableOp → ℕ → ℕ → ℕ
entry table p v =
    if p == 0 then luma_entry table v
    else (if is_chroma_plane p then chroma_entry table v else v)

-- an offset in pixels, in the samples of plane p
abbrev pub offset : ℕ → ℕ → ℕ → ℕ
offset p pixels divisor = by_plane p pixels (pixels / divisor)

-- the sample in row y and column x of plane p of the image
abbrev pub pixel : Op → Chroma → ℕ → Samples → ℕ → ℕ → ℕ
pixel (Table table) chroma p source y x = entry table p (source.at y x)
pixel HFlip chroma p source y x = source.at y (source.columns - 1 - x)
pixel VFlip chroma p source y x = source.at (source.rows - 1 - y) x
pixel (Crop crop) chroma p source y x =
    source.at (y + offset p crop.y (vertical_divisor chroma))
    (x + offset p crop.x (horizontal_divisor chroma))
pixel (Blur blur) chroma p source y x = blurred source.at source.columns source.rows blur.radius y x
