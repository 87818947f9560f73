-- A geometry is its format.
use Rattle.std.proofs.Common.{◌≡◌, ◌≤◌, ◌%◌, ap, subst}
use Rattle.std.proofs.Props.{props}
use Rattle.y4m_header.specs.declared.limits.TheConstants.{LONGEST_SIDE, LARGEST_DATA}
use Rattle.y4m_header.specs.Chroma.{horizontal_divisor, vertical_divisor, data_len}
use Rattle.frame_view.specs.declared.geometry.Geometry.{Geometry}
use Rattle.filters.specs.Chain.{Format, format_of}

record IsStated (p : Format) : Type 0 where
  some_columns : 1 ≤ p.width
  some_rows : 1 ≤ p.height
  narrow : p.width ≤ LONGEST_SIDE
  low : p.height ≤ LONGEST_SIDE
  columns_divided : p.width % horizontal_divisor p.chroma ≡ 0
  rows_divided : p.height % vertical_divisor p.chroma ≡ 0
  small : data_len p.width p.height p.chroma ≤ LARGEST_DATA

one_stated : (p : Format) → IsProp (IsStated p)
one_stated p = hlevel props

abbrev stated : (g : Geometry) → IsStated (format_of g)
stated g = record {
  some_columns = g.some_columns;
  some_rows = g.some_rows;
  narrow = g.narrow;
  low = g.low;
  columns_divided = g.columns_divided;
  rows_divided = g.rows_divided;
  small = g.small;
}

abbrev geometry_of : (p : Format) → IsStated p → Geometry
geometry_of p s = record {
  width = p.width;
  height = p.height;
  chroma = p.chroma;
  some_columns = s.some_columns;
  some_rows = s.some_rows;
  narrow = s.narrow;
  low = s.low;
  columns_divided = s.columns_divided;
  rows_divided = s.rows_divided;
  small = s.small;
}

pub same_geometry : (a b : Geometry) → format_of a ≡ format_of b → a ≡ b
same_geometry a b e =
    let P : Format → Type 0 = λ p. (s : IsStated p) → a ≡ geometry_of p s in
    subst P e (λ s. ap (geometry_of (format_of a)) (one_stated (format_of a) (stated a) s)) (stated b)
