-- Operations that follow one another: the formats between them, and whether each can be done.
use Rattle.std.specs.Prelude.{◌≡◌, ℕ, ◌≤◌, List, [], ◌∷◌, take, ⊤}
use Rattle.y4m_header.specs.declared.chroma.Chroma.{Chroma}
use Rattle.frame_view.specs.declared.geometry.Geometry.{Geometry}
use Rattle.row_bands.specs.declared.band_height.BandHeight.{BandHeight}
use Rattle.filters.specs.declared.limits.TheConstants.{MOST_OPS}
use Rattle.filters.specs.declared.op.Op.{Op}
use Rattle.filters.specs.Ops.{IsDoable, image_width, image_height}
pub use Rattle.filters.specs.Ops.{is_crop}

-- the size of frames, and how their chroma planes are sampled
pub record Format : Type 0 where
  pub width : ℕ
  pub height : ℕ
  pub chroma : Chroma

abbrev pub format_of : Geometry → Format
format_of g = record { width = g.width; height = g.height; chroma = g.chroma }

abbrev pub format_after : Op → Format → Format
format_after op format = record {
  width = image_width op format.width;
  height = image_height op format.height;
  chroma = format.chroma;
}

-- the one geometry is that of the image of frames of the other
pub record IsImageGeometry (op : Op) (g image : Geometry) : Type 0 where
  pub format : format_of image ≡ format_after op (format_of g)

-- the format after all these operations
abbrev pub last_format : List Op → Format → Format
last_format [] format = format
last_format (op ∷ ops) format = last_format ops (format_after op format)

-- each operation can be done on the frame that reaches it
abbrev pub AreDoable : List Op → Geometry → Type 0
AreDoable [] g = ⊤
AreDoable (op ∷ ops) g =
    IsDoable op g × ((image : Geometry) × IsImageGeometry op g image × AreDoable ops image)

-- a chain has 1 to 8 operations
pub record IsChainLength (count : ℕ) : Type 0 where
  pub some : 1 ≤ count
  pub few : count ≤ MOST_OPS

-- what a chain is: its operations, in order, the geometry that it was made for, and the height of its bands
pub record ChainValue : Type 0 where
  pub ops : List Op
  pub geometry : Geometry
  pub band_height : BandHeight

-- the format after so many operations of a chain, which is that of what reaches the operation behind them
abbrev pub format_at : ChainValue → ℕ → Format
format_at chain count = last_format (take count chain.ops) (format_of chain.geometry)

abbrev pub chain_of : List Op → Geometry → BandHeight → ChainValue
chain_of ops geometry band_height = record { ops = ops; geometry = geometry; band_height = band_height }
