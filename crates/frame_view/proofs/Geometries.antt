-- Geometries that are the same.
use Rattle.std.proofs.Common.{◌≡◌, ◌≤◌, ◌%◌}
use Rattle.std.proofs.Math.Path.{PathP, to_path_p}
use Rattle.std.proofs.Props.{props}
use Rattle.y4m_header.specs.Chroma.{horizontal_divisor, vertical_divisor, data_len}
use Rattle.y4m_header.specs.declared.limits.TheConstants.{LONGEST_SIDE, LARGEST_DATA}
use Rattle.frame_view.specs.declared.geometry.Geometry.{Geometry}

-- a fact has one proof, so those of two ends are joined
pub joined : (Fact : 𝕀 → Type 0) → IsProp (Fact 1) → (one : Fact 0) (other : Fact 1) → PathP Fact one other
joined Fact single one other = to_path_p Fact (single (coe 0 1 (i. Fact i) one) other)

-- what a geometry says of itself follows from its size and form
pub same_geometry : (a b : Geometry) → a.width ≡ b.width → a.height ≡ b.height → a.chroma ≡ b.chroma
    → a ≡ b
same_geometry a b width height chroma = λ i. record {
  width = width i;
  height = height i;
  chroma = chroma i;
  some_columns = joined (λ k. 1 ≤ width k) (hlevel props) a.some_columns b.some_columns i;
  some_rows = joined (λ k. 1 ≤ height k) (hlevel props) a.some_rows b.some_rows i;
  narrow = joined (λ k. width k ≤ LONGEST_SIDE) (hlevel props) a.narrow b.narrow i;
  low = joined (λ k. height k ≤ LONGEST_SIDE) (hlevel props) a.low b.low i;
  columns_divided = joined (λ k. width k % horizontal_divisor (chroma k) ≡ 0) (hlevel props)
      a.columns_divided b.columns_divided i;
  rows_divided = joined (λ k. height k % vertical_divisor (chroma k) ≡ 0) (hlevel props)
      a.rows_divided b.rows_divided i;
  small = joined (λ k. data_len (width k) (height k) (chroma k) ≤ LARGEST_DATA) (hlevel props)
      a.small b.small i;
}
