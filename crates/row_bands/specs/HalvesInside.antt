-- The parts of a band, seen plane by plane and in the samples of a whole frame.
use Rattle.std.specs.Prelude.{◌≡◌, ℕ, ◌-◌, ◌*◌, ◌≤◌, List, length, take, drop}
use Rattle.frame_view.specs.declared.geometry.Geometry.{Geometry}
use Rattle.frame_view.specs.LentTogether.{lent_columns, lent_len, of_plane}
use Rattle.frame_view.specs.Written.{IsRows}
use Rattle.row_bands.specs.Bands.{rows_above}
use Rattle.row_bands.specs.Halves.{HasPart, part_of}
use Rattle.row_bands.specs.Written.{KeepsOthers}

-- a call left these rows, and they are the picture's
abbrev pub GivesRows : (ℕ → ℕ → ℕ → ℕ) → (ℕ → ℕ → ℕ → List ℕ → Type 0) → Geometry
    → ℕ → ℕ → ℕ → List ℕ → Type 0
GivesRows picture gives g p from to rows = IsRows picture g p from to rows × gives p from to rows

-- such rows of four planes, of which the frame perhaps hasn't the last ones
pub record HasPlanesOfPart (gives : ℕ → ℕ → ℕ → List ℕ → Type 0) (from to : ℕ) (g : Geometry)
    (luma cb cr alpha : List ℕ) : Type 0 where
  pub rows : HasPart gives from to g (λ p. of_plane p luma cb cr alpha)

-- how many samples of plane p go with the luma rows from one on to another; none where the frame hasn't it
abbrev pub part_len : Geometry → ℕ → ℕ → ℕ → ℕ
part_len g p from to = (rows_above g p to - rows_above g p from) * lent_columns g p

-- the samples of plane p, from one on to another, that go with the luma rows from one on to another
pub record AreSamplesOfPart (g : Geometry) (p from to first behind : ℕ) : Type 0 where
  pub start : first ≡ rows_above g p from * lent_columns g p
  pub end : behind ≡ rows_above g p to * lent_columns g p
  pub ordered : first ≤ behind
  pub len : behind - first ≡ part_len g p from to
  pub inside : behind ≤ lent_len g p

-- four planes have as many samples as go with the luma rows from one on to another
pub record HaveLensOfPart (g : Geometry) (from to : ℕ) (l b r a : List ℕ) : Type 0 where
  pub luma : length l ≡ part_len g 0 from to
  pub cb : length b ≡ part_len g 1 from to
  pub cr : length r ≡ part_len g 2 from to
  pub alpha : length a ≡ part_len g 3 from to

-- in such samples of four planes two parts, which meet at a luma row, were written
pub record HaveParts (gives : ℕ → ℕ → ℕ → List ℕ → Type 0) (from row to : ℕ) (g : Geometry)
    (l b r a : List ℕ) : Type 0 where
  pub top : HasPart gives from row g (λ p. take (part_len g p from row) (of_plane p l b r a))
  pub bottom : HasPart gives row to g (λ p. drop (part_len g p from row) (of_plane p l b r a))

-- in the samples of a frame two parts, which meet at a luma row, were written, and nothing else
pub record HasParts (gives : ℕ → ℕ → ℕ → List ℕ → Type 0) (from row to : ℕ) (g : Geometry)
    (old new : List ℕ) : Type 0 where
  pub top : HasPart gives from row g (part_of g new from row)
  pub bottom : HasPart gives row to g (part_of g new row to)
  pub others : KeepsOthers from to g old new
