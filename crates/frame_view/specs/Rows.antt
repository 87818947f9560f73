-- The rows of a frame's planes, seen in its data.
use Rattle.std.specs.Prelude.{◌≡◌, ℕ, ◌+◌, ◌*◌, ◌<◌, List, ◌++◌, length, map, slice_index, slice_range}
use Rattle.std.specs.List.{range_with_len}
use Rattle.y4m_header.specs.Chroma.{plane_count}
use Rattle.frame_view.specs.declared.geometry.Geometry.{Geometry}
use Rattle.frame_view.specs.declared.plane.Plane.{Plane}
use Rattle.frame_view.specs.LentTogether.{lent_len, of_plane}
use Rattle.frame_view.specs.Places.{plane_width, plane_height, row_start, frame_len}

abbrev pub sample : Geometry → List ℕ → ℕ → ℕ → ℕ → ℕ
sample g samples p y x = slice_index samples (row_start g p y + x)

-- there is a sample at this plane, row and column
pub record IsPlace (g : Geometry) (p y x : ℕ) : Type 0 where
  pub plane : p < plane_count g.chroma
  pub row : y < plane_height g p
  pub column : x < plane_width g p

-- the byte at i is the sample of one place, and of one alone
abbrev pub IsInOneRow : Geometry → ℕ → Type 0
IsInOneRow g i = (p y x : ℕ) × IsPlace g p y x × (i ≡ row_start g p y + x)
    × ((q z v : ℕ) → IsPlace g q z v → i ≡ row_start g q z + v → (q ≡ p) × (z ≡ y) × (v ≡ x))

-- the rows part the bytes of a frame among them: each byte is in one of them, and they have no others
pub record EachByteInOneRow (g : Geometry) : Type 0 where
  pub bytes : (i : ℕ) → i < frame_len g → IsInOneRow g i
  pub places : (p y x : ℕ) → IsPlace g p y x → row_start g p y + x < frame_len g

-- the rows from one place on to another, which is left out, one after another
abbrev pub run_of : Geometry → List ℕ → ℕ → ℕ → ℕ → List ℕ
run_of g samples p from to = slice_range samples (row_start g p from) (row_start g p to)

abbrev pub row_of : Geometry → List ℕ → ℕ → ℕ → List ℕ
row_of g samples p y = run_of g samples p y (y + 1)

-- the rows of a plane, from the top
abbrev pub rows_of : Geometry → List ℕ → ℕ → List (List ℕ)
rows_of g samples p = map (row_of g samples p) (range_with_len 0 (plane_height g p))

abbrev pub plane_run : Plane → ℕ → ℕ → List ℕ
plane_run plane from to = slice_range plane.samples.now (from * plane.columns) (to * plane.columns)

-- what a plane is: its rows, from the top
abbrev pub plane_rows : Plane → List (List ℕ)
plane_rows plane = map (λ y. plane_run plane y (y + 1)) (range_with_len 0 plane.rows)

-- four planes that come back at once: what stands in one stands in that plane's own rows
abbrev pub LentPlanesStandInTheirRows : Geometry → Type 0
LentPlanesStandInTheirRows g = (luma cb cr alpha : List ℕ) → length luma ≡ lent_len g 0
    → length cb ≡ lent_len g 1 → length cr ≡ lent_len g 2 → length alpha ≡ lent_len g 3
    → (p y x : ℕ) → IsPlace g p y x
    → sample g (luma ++ (cb ++ (cr ++ alpha))) p y x
    ≡ slice_index (of_plane p luma cb cr alpha) (y * plane_width g p + x)
