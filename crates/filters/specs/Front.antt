-- The tables in front of a chain, which are done in the frame itself, and canvases for the operations behind
-- them.
use Rattle.std.specs.Prelude.{◌≡◌, ℕ, ◌+◌, ◌-◌, ◌<◌, List, length, slice_get, slice_index_or, Option}
use Rattle.std.specs.Prelude.{option_map, unwrap_or}
use Rattle.std.specs.List.{prefix_len}
use Rattle.frame_view.specs.declared.frame.Frame.{Frame}
use Rattle.frame_view.specs.Frame.{line_of}
use Rattle.row_bands.specs.declared.canvas.Canvas.{Canvas}
use Rattle.row_bands.specs.Canvas.{frame_of}
pub use Rattle.filters.specs.Ops.{is_table}
use Rattle.filters.specs.Chain.{ChainValue}
use Rattle.filters.specs.ChainImage.{IsCanvasAt}

-- how many tables stand before the first other operation
abbrev pub front_of : ChainValue → ℕ
front_of chain = prefix_len is_table chain.ops

-- a canvas for the output of each operation behind the tables in front
pub record AreCanvases (chain : ChainValue) (canvases : List Canvas) : Type 0 where
  pub count : front_of chain + length canvases ≡ length chain.ops
  pub each : (i : ℕ) (d : Canvas) → i < length canvases
      → IsCanvasAt chain (front_of chain + i) (slice_index_or canvases i d)

-- each canvas has the line that it had
abbrev pub KeepLines : List Canvas → List Canvas → Type 0
KeepLines old new = (i : ℕ) (d : Canvas)
    → line_of (frame_of (slice_index_or new i d)) ≡ line_of (frame_of (slice_index_or old i d))

-- the canvas behind all others, if there is one
abbrev pub last_canvas : List Canvas → Option Canvas
last_canvas canvases = slice_get canvases (length canvases - 1)

-- the frame that holds the image: that of the last canvas, or this one where there are none
abbrev pub image_in : Frame → List Canvas → Frame
image_in frame canvases = unwrap_or (option_map frame_of (last_canvas canvases)) frame
