-- Which steps two threads may do.
use Rattle.std.specs.Prelude.{◌≡◌, ℕ, ◌+◌}
use Rattle.frame_view.specs.declared.geometry.Geometry.{Geometry}
use Rattle.row_bands.specs.Bands.{luma_from, luma_to, CanBeHalved}
use Rattle.filters.specs.Chain.{ChainValue, format_of, format_at}
use Rattle.filters.specs.Steps.{IsStep, counts_of}

-- this band of this operation's image can be halved
pub record CanHalveBand (chain : ChainValue) (op band : ℕ) : Type 0 where
  pub image : Geometry
  pub format : format_of image ≡ format_at chain (op + 1)
  pub rows : let b = chain.band_height.rows in CanBeHalved image (luma_from b band) (luma_to image b band)

-- the band that step k writes can be halved
pub record CanHalveStep (chain : ChainValue) (k : ℕ) : Type 0 where
  pub op : ℕ
  pub band : ℕ
  pub step : IsStep (counts_of chain) k op band
  pub half : CanHalveBand chain op band
