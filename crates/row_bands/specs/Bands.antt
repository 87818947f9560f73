-- How a frame is cut into bands of b luma rows, the last one perhaps of fewer.
use Rattle.std.specs.Prelude.{◌≡◌, ℕ, ◌+◌, ◌-◌, ◌*◌, ◌/◌, ◌%◌, ◌<◌, ◌≤◌, min}
use Rattle.std.specs.Int.{div_ceil}
use Rattle.y4m_header.specs.Chroma.{vertical_divisor, plane_count}
use Rattle.frame_view.specs.declared.geometry.Geometry.{Geometry}
use Rattle.frame_view.specs.Places.{by_plane, plane_height, plane_width}

abbrev pub band_count : Geometry → ℕ → ℕ
band_count g b = div_ceil g.height b

-- how many rows of plane p go with the luma rows above row n
abbrev pub rows_above : Geometry → ℕ → ℕ → ℕ
rows_above g p n = by_plane p n (n / vertical_divisor g.chroma)

-- the luma row that band k begins with
abbrev pub luma_from : ℕ → ℕ → ℕ
luma_from b k = k * b

-- the luma row that follows band k
abbrev pub luma_to : Geometry → ℕ → ℕ → ℕ
luma_to g b k = min g.height ((k + 1) * b)

-- row y of plane p goes with the luma rows from one on to another
abbrev pub IsInPart : Geometry → ℕ → ℕ → ℕ → ℕ → Type 0
IsInPart g from to p y = (rows_above g p from ≤ y) × (y < rows_above g p to)

-- how many samples of plane p go with the luma rows from one on to another
abbrev pub plane_part : Geometry → ℕ → ℕ → ℕ → ℕ
plane_part g p from to = (rows_above g p to - rows_above g p from) * plane_width g p

-- row y of plane p is in band k
abbrev pub IsInBand : Geometry → ℕ → ℕ → ℕ → ℕ → Type 0
IsInBand g b k p y = IsInPart g (luma_from b k) (luma_to g b k) p y

-- each row of each plane is in exactly one band
abbrev pub EachRowInOneBand : Geometry → ℕ → Type 0
EachRowInOneBand g b = (p y : ℕ) → p < plane_count g.chroma → y < plane_height g p
    → (k : ℕ) × (k < band_count g b) × IsInBand g b k p y × ((j : ℕ) → IsInBand g b j p y → j ≡ k)

-- rows of plane p, from one on to another, are those that go with the luma rows from one on to another
pub record GoWith (g : Geometry) (p a b first end : ℕ) : Type 0 where
  pub from : first ≡ rows_above g p a
  pub to : end ≡ rows_above g p b
  pub ordered : first ≤ end
  pub inside : end ≤ plane_height g p

-- the luma row that halves the luma rows from one on to another: the first one and half of them, rounded down
-- to a multiple of the vertical divisor
abbrev pub half_row : Geometry → ℕ → ℕ → ℕ
half_row g from to = (from + (to - from) / 2) / vertical_divisor g.chroma * vertical_divisor g.chroma

-- the luma rows from one on to another can be halved: some of them stand above the row that halves them
abbrev pub CanBeHalved : Geometry → ℕ → ℕ → Type 0
CanBeHalved g from to = from < half_row g from to

-- a luma row halves the luma rows from one on to another: no chroma row is cut, and neither half is empty
pub record Halves (g : Geometry) (a b row : ℕ) : Type 0 where
  pub value : row ≡ half_row g a b
  pub whole : row % vertical_divisor g.chroma ≡ 0
  pub from : a < row
  pub to : row < b
