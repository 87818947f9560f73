-- The two parts of a band that two threads write.
use Rattle.std.specs.Prelude.{ℕ, ◌<◌, ◌⊎◌, List}
use Rattle.y4m_header.specs.Chroma.{plane_count}
use Rattle.frame_view.specs.declared.geometry.Geometry.{Geometry}
use Rattle.frame_view.specs.Frame.{samples_of}
use Rattle.frame_view.specs.Rows.{run_of}
use Rattle.row_bands.specs.declared.band.Band.{Band}
use Rattle.row_bands.specs.Bands.{rows_above, IsInPart}
use Rattle.row_bands.specs.Band.{band_frame, band_geometry}

-- in each plane one call left the rows that go with the luma rows from one on to another, and no rows beside
-- them; gives is what a call for a plane, its first row and the row that follows the last may leave
abbrev pub HasPart : (ℕ → ℕ → ℕ → List ℕ → Type 0) → ℕ → ℕ → Geometry → (ℕ → List ℕ) → Type 0
HasPart gives from to g rows = (p : ℕ) → p < plane_count g.chroma
    → gives p (rows_above g p from) (rows_above g p to) (rows p)

-- the rows of each plane that go with the luma rows from one on to another
abbrev pub part_of : Geometry → List ℕ → ℕ → ℕ → ℕ → List ℕ
part_of g samples from to p = run_of g samples p (rows_above g p from) (rows_above g p to)

-- the rows of plane p in a band
abbrev pub rows_of_band : Band → ℕ → List ℕ
rows_of_band band p = part_of (band_geometry band) (samples_of (band_frame band)) band.from band.to p

-- the rows of the band above a luma row were written by themselves, and so were those from it on
pub record IsHalved (gives : ℕ → ℕ → ℕ → List ℕ → Type 0) (row : ℕ) (old new : Band) : Type 0 where
  pub top : HasPart gives old.from row (band_geometry old)
      (part_of (band_geometry old) (samples_of (band_frame new)) old.from row)
  pub bottom : HasPart gives row old.to (band_geometry old)
      (part_of (band_geometry old) (samples_of (band_frame new)) row old.to)

-- the parts that meet at a luma row have the rows of the band, each of them in one part alone: those of the
-- upper part stand above those of the lower one
pub record HalvesPartTheBand (g : Geometry) (from row to : ℕ) : Type 0 where
  pub within_top : (p y : ℕ) → IsInPart g from row p y → IsInPart g from to p y
  pub within_bottom : (p y : ℕ) → IsInPart g row to p y → IsInPart g from to p y
  pub whole : (p y : ℕ) → IsInPart g from to p y → IsInPart g from row p y ⊎ IsInPart g row to p y
  pub apart : (p y z : ℕ) → IsInPart g from row p y → IsInPart g row to p z → y < z
