-- What was written of a band: its rows are a picture's, a function of plane, row and column.
use Rattle.std.specs.Prelude.{◌≡◌, ℕ, ◌<◌, ◌≤◌, ◌⊎◌, List}
use Rattle.y4m_header.specs.Chroma.{plane_count}
use Rattle.frame_view.specs.declared.frame.Frame.{Frame}
use Rattle.frame_view.specs.declared.geometry.Geometry.{Geometry}
use Rattle.frame_view.specs.Frame.{line_of, samples_of}
use Rattle.frame_view.specs.Places.{plane_width, plane_height}
use Rattle.frame_view.specs.Rows.{sample}
use Rattle.row_bands.specs.declared.band.Band.{Band}
use Rattle.row_bands.specs.Bands.{rows_above}
use Rattle.row_bands.specs.Canvas.{height_of}
use Rattle.row_bands.specs.Band.{band_frame}

-- every sample outside the rows that go with these luma rows is as before
abbrev pub KeepsOthers : ℕ → ℕ → Geometry → List ℕ → List ℕ → Type 0
KeepsOthers from to g old new = (p y x : ℕ) → p < plane_count g.chroma → y < plane_height g p
    → x < plane_width g p → (y < rows_above g p from) ⊎ (rows_above g p to ≤ y)
    → sample g new p y x ≡ sample g old p y x

-- the rows that go with the luma rows from one on to another are the picture's, and every other sample is as
-- before
pub record HasBand (picture : ℕ → ℕ → ℕ → ℕ) (from to : ℕ) (old new : Frame) : Type 0 where
  pub geometry : new.geometry ≡ old.geometry
  pub line : line_of new ≡ line_of old
  pub rows : (p y x : ℕ) → p < plane_count old.geometry.chroma → rows_above old.geometry p from ≤ y
      → y < rows_above old.geometry p to → x < plane_width old.geometry p
      → sample old.geometry (samples_of new) p y x ≡ picture p y x
  pub others : KeepsOthers from to old.geometry (samples_of old) (samples_of new)

-- the new band is the same rows of the same canvas, with the picture's samples; all other rows are as before
pub record IsPainted (picture : ℕ → ℕ → ℕ → ℕ) (old new : Band) : Type 0 where
  pub from : new.from ≡ old.from
  pub to : new.to ≡ old.to
  pub height : height_of new.canvas.now ≡ height_of old.canvas.now
  pub band : HasBand picture old.from old.to (band_frame old) (band_frame new)
