-- What a header line says of the size that it states.
use Rattle.std.proofs.Common.{ℕ, ◌≡◌, ◌≤◌, ◌%◌, List}
use Rattle.std.proofs.Math.Logic.{∥∥₁_elim}
use Rattle.std.proofs.Props.{props}
use Rattle.y4m_header.specs.declared.chroma.Chroma.{Chroma}
use Rattle.y4m_header.specs.declared.limits.TheConstants.{LONGEST_SIDE, LARGEST_DATA}
use Rattle.y4m_header.specs.Chroma.{horizontal_divisor, vertical_divisor, data_len}
use Rattle.y4m_header.specs.HeaderLine.{IsHeaderLine, widths, heights}
use Rattle.y4m_header.proofs.HeaderFacts.{size_positive}

-- the size and form of a picture that a header line can state
pub record IsPicture (w h : ℕ) (chroma : Chroma) : Type 0 where
  pub some_columns : 1 ≤ w
  pub some_rows : 1 ≤ h
  pub narrow : w ≤ LONGEST_SIDE
  pub low : h ≤ LONGEST_SIDE
  pub columns_divided : w % horizontal_divisor chroma ≡ 0
  pub rows_divided : h % vertical_divisor chroma ≡ 0
  pub small : data_len w h chroma ≤ LARGEST_DATA

format_of : (line : List ℕ) (w h : ℕ) (chroma : Chroma) → IsHeaderLine line w h chroma → IsPicture w h chroma
format_of line w h chroma s = record {
  some_columns = size_positive (widths line) w s.stated.width;
  some_rows = size_positive (heights line) h s.stated.height;
  narrow = s.limits.width;
  low = s.limits.height;
  columns_divided = s.divided.columns;
  rows_divided = s.divided.rows;
  small = s.limits.bytes;
}

pub is_picture : (line : List ℕ) (w h : ℕ) (chroma : Chroma) → ∥ IsHeaderLine line w h chroma ∥₁
    → IsPicture w h chroma
is_picture line w h chroma s = ∥∥₁_elim s (hlevel props) (format_of line w h chroma)
