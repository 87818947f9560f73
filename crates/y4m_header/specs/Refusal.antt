-- Why a line is refused as a header.
use Rattle.std.specs.Prelude.{◌≡◌, ℕ, ◌<◌, ◌≤◌, ◌⊎◌, List, length, All, Any, slice_get}
use Rattle.y4m_header.specs.declared.chroma.Chroma.{Chroma}
use Rattle.y4m_header.specs.declared.error.HeaderError.{HeaderError}
use Rattle.y4m_header.specs.declared.error.HeaderError.TheVariants.{NotY4m, BadNumber, RepeatedTag}
use Rattle.y4m_header.specs.declared.error.HeaderError.TheVariants.{MissingSize, UnknownChroma, NotDivisible}
use Rattle.y4m_header.specs.declared.error.HeaderError.TheVariants.{TooLarge, NoMemory, NotFrame}
use Rattle.y4m_header.specs.declared.limits.TheConstants.{LONGEST_SIDE, LARGEST_DATA}
use Rattle.y4m_header.specs.Chroma.{NamesChroma, data_len}
use Rattle.y4m_header.specs.HeaderLine.{IsY4mLine, IsSize, StatesFormat, IsDivided, IsHeaderLine}
use Rattle.y4m_header.specs.HeaderLine.{widths, heights, chromas}

-- each W and each H states a size
pub record HasGoodSizes (line : List ℕ) : Type 0 where
  pub widths_good : All IsSize (widths line)
  pub heights_good : All IsSize (heights line)

-- some W or some H states no size
abbrev pub HasBadSize : List ℕ → Type 0
HasBadSize line =
    Any (λ value. ¬ IsSize value) (widths line) ⊎ Any (λ value. ¬ IsSize value) (heights line)

-- no W, H or C stands twice
pub record HasNoRepeat (line : List ℕ) : Type 0 where
  pub one_width : length (widths line) ≤ 1
  pub one_height : length (heights line) ≤ 1
  pub one_chroma : length (chromas line) ≤ 1

-- a W, H or C stands twice
abbrev pub HasRepeat : List ℕ → Type 0
HasRepeat line = (1 < length (widths line)) ⊎ (1 < length (heights line)) ⊎ (1 < length (chromas line))

-- there is a W and an H
pub record HasSizes (line : List ℕ) : Type 0 where
  pub some_width : 0 < length (widths line)
  pub some_height : 0 < length (heights line)

-- there is no W, or no H
abbrev pub LacksSize : List ℕ → Type 0
LacksSize line = (length (widths line) ≡ 0) ⊎ (length (heights line) ≡ 0)

-- the first C, or the want of one, names no chroma form
abbrev pub LacksChroma : List ℕ → Type 0
LacksChroma line = (chroma : Chroma) → ¬ NamesChroma (slice_get (chromas line) 0) chroma

abbrev pub IsTooLarge : ℕ → ℕ → Chroma → Type 0
IsTooLarge w h chroma = (LONGEST_SIDE < w) ⊎ (LONGEST_SIDE < h) ⊎ (LARGEST_DATA < data_len w h chroma)

-- the refusal is the first that holds of the line; want of memory stands last, for a header line alone
abbrev pub IsRefusedAs : HeaderError → List ℕ → Type 0
IsRefusedAs NotY4m line = ¬ IsY4mLine line
IsRefusedAs BadNumber line = IsY4mLine line × HasBadSize line
IsRefusedAs RepeatedTag line = IsY4mLine line × HasGoodSizes line × HasRepeat line
IsRefusedAs MissingSize line = IsY4mLine line × HasGoodSizes line × HasNoRepeat line × LacksSize line
IsRefusedAs UnknownChroma line =
    IsY4mLine line × HasGoodSizes line × HasNoRepeat line × HasSizes line × LacksChroma line
IsRefusedAs NotDivisible line =
    (w h : ℕ) × (chroma : Chroma) × StatesFormat line w h chroma × ¬ IsDivided w h chroma
IsRefusedAs TooLarge line =
    (w h : ℕ) × (chroma : Chroma)
    × StatesFormat line w h chroma × IsDivided w h chroma × IsTooLarge w h chroma
IsRefusedAs NoMemory line = (w h : ℕ) × (chroma : Chroma) × IsHeaderLine line w h chroma
IsRefusedAs NotFrame line = ⊥
