-- What a blur works with: a plane and its rows, sums of its columns, the means of squares, and blurred rows.
use Rattle.std.specs.Prelude.{◌≡◌, ℕ, ◌+◌, ◌*◌, ◌/◌, ◌<◌, ◌≤◌, List, length, slice_index}
use Rattle.y4m_header.specs.declared.limits.TheConstants.{LONGEST_SIDE}
use Rattle.filters.specs.declared.limits.TheConstants.{MOST_RADIUS}
use Rattle.filters.specs.declared.blur.source.SourcePlane.{SourcePlane}
use Rattle.filters.specs.Blur.{blurred, clamped, column_sum, pixel_of, side, sum_below}

-- the sum of column x, where `radius` places stand before the first column
abbrev pub column : List ℕ → ℕ → ℕ → ℕ
column columns radius x = slice_index columns (radius + x)

-- the row is row y of the plane
pub record IsRowOf (plane : SourcePlane) (y : ℕ) (row : List ℕ) : Type 0 where
  pub sized : length row ≡ plane.width
  pub samples : (x : ℕ) → x < plane.width
      → slice_index row x ≡ pixel_of plane.samples.now plane.width y x
  pub bytes : (x : ℕ) → slice_index row x ≤ 255

-- the plane has a row y, and there is a place for each column and for `radius` more on either side
pub record IsRoomAt (plane : SourcePlane) (y : ℕ) (columns : List ℕ) : Type 0 where
  pub down : y < plane.height
  pub sized : length columns ≡ plane.width + 2 * plane.radius

-- the sums of the columns over the first n of the rows near row y
pub record AreSumsTo (plane : SourcePlane) (y n : ℕ) (columns : List ℕ) : Type 0 where
  pub sums : (x : ℕ) → x < plane.width → column columns plane.radius x
      ≡ sum_below (λ i. pixel_of plane.samples.now plane.width (clamped plane.height plane.radius y i) x) n
  pub bytes : (x : ℕ) → x < plane.width → column columns plane.radius x ≤ 255 * n

-- the sums of the columns over all rows near row y
abbrev pub AreColumnSums : SourcePlane → ℕ → List ℕ → Type 0
AreColumnSums plane y columns = (x : ℕ) → x < plane.width → column columns plane.radius x
    ≡ column_sum (pixel_of plane.samples.now plane.width) plane.height plane.radius y x

-- the samples of a plane, one row after another, and the radius of its blur
pub record IsPlane (samples : List ℕ) (width height radius : ℕ) : Type 0 where
  pub whole : length samples ≡ height * width
  pub some_width : 0 < width
  pub wide : width ≤ LONGEST_SIDE
  pub high : height ≤ LONGEST_SIDE
  pub reach : 1 ≤ radius
  pub small : radius ≤ MOST_RADIUS

-- these are the rows of the blurred plane from one on to another, which is left out
abbrev pub AreBlurredRows : List ℕ → ℕ → ℕ → ℕ → ℕ → ℕ → List ℕ → Type 0
AreBlurredRows samples width height radius from to rows = (v x : ℕ) → from + v < to → x < width
    → pixel_of rows width v x ≡ blurred (pixel_of samples width) width height radius (from + v) x

-- sums of columns of `side` samples, so many that a square of `side` columns begins at each of `count` places
pub record AreSquares (side count : ℕ) (columns : List ℕ) : Type 0 where
  pub sized : count + side ≡ length columns + 1
  pub bytes : (k : ℕ) → k < length columns → slice_index columns k ≤ 255 * side

-- the sums of the four columns from each place on
pub record AreFours (columns fours : List ℕ) : Type 0 where
  pub sized : length fours + 3 ≡ length columns
  pub sums : (k : ℕ) → k < length fours
      → slice_index fours k ≡ sum_below (λ j. slice_index columns (k + j)) 4

-- the rounded means of the squares of `side` columns that begin at each place
abbrev pub AreMeans : ℕ → List ℕ → List ℕ → Type 0
AreMeans side columns means = (x : ℕ) → x < length means → slice_index means x
    ≡ (sum_below (λ j. slice_index columns (x + j)) side + side * side / 2) / (side * side)

-- the rounded means of the squares round each of `count` columns, of which the first and the last stand for
-- those beside them
abbrev pub AreMeansRound : ℕ → ℕ → List ℕ → List ℕ → Type 0
AreMeansRound radius count columns means = (x : ℕ) → x < count →
    let sum = sum_below (λ j. column columns radius (clamped count radius x j)) (side radius) in
    slice_index means x ≡ (sum + side radius * side radius / 2) / (side radius * side radius)
