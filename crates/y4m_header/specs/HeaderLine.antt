-- The header line, by the grammar of the manual page yuv4mpeg(5).
use Rattle.std.specs.Prelude.{◌≡◌, ℕ, ◌%◌, ◌<◌, ◌≤◌, List, [], ◌∷◌, length, IsTrue, codes, slice_get}
use Rattle.std.specs.Str.Parse.{digits_value}
use Rattle.y4m_header.specs.declared.chroma.Chroma.{Chroma}
use Rattle.y4m_header.specs.declared.limits.TheConstants.{LONGEST_SIDE, LARGEST_DATA, MOST_SIZE_DIGITS}
use Rattle.y4m_header.specs.Chroma.{NamesChroma, horizontal_divisor, vertical_divisor, data_len}
use Rattle.y4m_header.specs.Line.{IsLine, word, values}
use Rattle.y4m_header.specs.Text.{is_number}

pub record IsY4mLine (line : List ℕ) : Type 0 where
  pub is_line : IsLine line
  pub is_word : word line ≡ codes "YUV4MPEG2"

-- the letters of the tags that are read, in ASCII: W, H and C
abbrev pub width_letter : ℕ
width_letter = 87

abbrev pub height_letter : ℕ
height_letter = 72

abbrev pub chroma_letter : ℕ
chroma_letter = 67

abbrev pub widths : List ℕ → List (List ℕ)
widths line = values width_letter line

abbrev pub heights : List ℕ → List (List ℕ)
heights line = values height_letter line

abbrev pub chromas : List ℕ → List (List ℕ)
chromas line = values chroma_letter line

-- 1 to 9 decimal digits that stand for at least 1
pub record IsSize (value : List ℕ) : Type 0 where
  pub digits : IsTrue (is_number MOST_SIZE_DIGITS value)
  pub positive : 0 < digits_value 10 value

-- there is one value, and it is this size
abbrev pub StatesSize : List (List ℕ) → ℕ → Type 0
StatesSize given size =
    (value : List ℕ) × (given ≡ value ∷ []) × IsSize value × (digits_value 10 value ≡ size)

-- there is at most one value, and it, or the want of one, names this chroma form
pub record StatesChroma (given : List (List ℕ)) (chroma : Chroma) : Type 0 where
  pub one : length given ≤ 1
  pub named : NamesChroma (slice_get given 0) chroma

-- the line states this format: its one W, its one H, and its C if it has one
pub record StatesFormat (line : List ℕ) (w h : ℕ) (chroma : Chroma) : Type 0 where
  pub is_y4m : IsY4mLine line
  pub width : StatesSize (widths line) w
  pub height : StatesSize (heights line) h
  pub form : StatesChroma (chromas line) chroma

-- the chroma planes are whole
pub record IsDivided (w h : ℕ) (chroma : Chroma) : Type 0 where
  pub columns : w % horizontal_divisor chroma ≡ 0
  pub rows : h % vertical_divisor chroma ≡ 0

pub record IsWithinLimits (w h : ℕ) (chroma : Chroma) : Type 0 where
  pub width : w ≤ LONGEST_SIDE
  pub height : h ≤ LONGEST_SIDE
  pub bytes : data_len w h chroma ≤ LARGEST_DATA

-- a header line, without its line feed, of this format
pub record IsHeaderLine (line : List ℕ) (w h : ℕ) (chroma : Chroma) : Type 0 where
  pub stated : StatesFormat line w h chroma
  pub divided : IsDivided w h chroma
  pub limits : IsWithinLimits w h chroma

-- a header line is one of one format
abbrev pub FormatIsDetermined : Type 0
FormatIsDetermined = (line : List ℕ) (w h : ℕ) (chroma : Chroma) (w' h' : ℕ) (chroma' : Chroma)
    → IsHeaderLine line w h chroma → IsHeaderLine line w' h' chroma'
    → (w ≡ w') × (h ≡ h') × (chroma ≡ chroma')
