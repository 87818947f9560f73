-- The canvases of a job.
use Rattle.std.specs.Prelude.{◌≡◌, ℕ, ◌+◌, ◌<◌, List, length, slice_index_or, codes}
use Rattle.frame_view.specs.Frame.{line_of}
use Rattle.row_bands.specs.declared.canvas.Canvas.{Canvas}
use Rattle.row_bands.specs.Canvas.{frame_of, height_of}
use Rattle.filters.specs.Chain.{ChainValue, format_of, last_format}
use Rattle.filters.specs.ChainImage.{IsCanvasAt}

-- a canvas for the chain's image
pub record IsImageCanvas (chain : ChainValue) (canvas : Canvas) : Type 0 where
  pub format : format_of (frame_of canvas).geometry ≡ last_format chain.ops (format_of chain.geometry)
  pub height : height_of canvas ≡ chain.band_height.rows

-- a canvas for each operation but the last
pub record IsScratch (chain : ChainValue) (canvases : List Canvas) : Type 0 where
  pub count : length canvases + 1 ≡ length chain.ops
  pub each : (i : ℕ) (d : Canvas) → i < length canvases → IsCanvasAt chain i (slice_index_or canvases i d)
  pub lines : (i : ℕ) (d : Canvas) → i < length canvases
      → line_of (frame_of (slice_index_or canvases i d)) ≡ codes "FRAME"
