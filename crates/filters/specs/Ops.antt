-- What holds of one operation: which frames it can be done on, how large its images are, what a band of it
-- costs, and of which kind it is.
use Rattle.std.specs.Prelude.{◌≡◌, ℕ, ◌+◌, ◌%◌, ◌≤◌, ⊤, Bool, true, false}
use Rattle.y4m_header.specs.Chroma.{horizontal_divisor, vertical_divisor}
use Rattle.frame_view.specs.declared.geometry.Geometry.{Geometry}
use Rattle.filters.specs.declared.limits.TheConstants.{MOST_RADIUS}
use Rattle.filters.specs.declared.op.Op.{Op}
use Rattle.filters.specs.declared.op.Op.TheVariants.{Table, HFlip, VFlip, Crop, Blur}
use Rattle.filters.specs.declared.op.Crop.{Crop as Rectangle}

-- some pixels, within the frame, with whole samples of every plane
pub record IsRectangleOf (crop : Rectangle) (g : Geometry) : Type 0 where
  pub some_columns : 1 ≤ crop.width
  pub some_rows : 1 ≤ crop.height
  pub across : crop.x + crop.width ≤ g.width
  pub down : crop.y + crop.height ≤ g.height
  pub whole_x : crop.x % horizontal_divisor g.chroma ≡ 0
  pub whole_y : crop.y % vertical_divisor g.chroma ≡ 0
  pub whole_width : crop.width % horizontal_divisor g.chroma ≡ 0
  pub whole_height : crop.height % vertical_divisor g.chroma ≡ 0

-- the radius of a blur is 1 to 8
abbrev pub HasGoodRadius : Op → Type 0
HasGoodRadius (Table table) = ⊤
HasGoodRadius HFlip = ⊤
HasGoodRadius VFlip = ⊤
HasGoodRadius (Crop crop) = ⊤
HasGoodRadius (Blur blur) = (1 ≤ blur.radius) × (blur.radius ≤ MOST_RADIUS)

-- the operation can be done on frames of this geometry
abbrev pub IsDoable : Op → Geometry → Type 0
IsDoable (Table table) g = ⊤
IsDoable HFlip g = ⊤
IsDoable VFlip g = ⊤
IsDoable (Crop crop) g = IsRectangleOf crop g
IsDoable (Blur blur) g = HasGoodRadius (Blur blur)

-- the size of the image of a frame
abbrev pub image_width : Op → ℕ → ℕ
image_width (Table table) width = width
image_width HFlip width = width
image_width VFlip width = width
image_width (Crop crop) width = crop.width
image_width (Blur blur) width = width

abbrev pub image_height : Op → ℕ → ℕ
image_height (Table table) height = height
image_height HFlip height = height
image_height VFlip height = height
image_height (Crop crop) height = crop.height
image_height (Blur blur) height = height

-- what one band of an operation costs
abbrev pub op_cost : Op → ℕ
op_cost (Table table) = 1
op_cost HFlip = 1
op_cost VFlip = 1
op_cost (Crop crop) = 1
op_cost (Blur blur) = 1 + blur.radius

-- it changes each sample by itself, so that a frame can be its own image
abbrev pub is_table : Op → Bool
is_table (Table table) = true
is_table HFlip = false
is_table VFlip = false
is_table (Crop crop) = false
is_table (Blur blur) = false

-- its images may have another size
abbrev pub is_crop : Op → Bool
is_crop (Table table) = false
is_crop HFlip = false
is_crop VFlip = false
is_crop (Crop crop) = true
is_crop (Blur blur) = false
