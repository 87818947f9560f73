-- What clauses see of a canvas.
use Rattle.std.specs.Prelude.{◌≡◌, ℕ, List, replicate}
use Rattle.frame_view.specs.declared.frame.Frame.{Frame}
use Rattle.frame_view.specs.declared.geometry.Geometry.{Geometry}
use Rattle.frame_view.specs.Frame.{IsFrameWith, samples_of}
use Rattle.frame_view.specs.Places.{frame_len}
use Rattle.row_bands.specs.declared.band_height.BandHeight.{BandHeight}
use Rattle.row_bands.specs.Bands.{luma_from, luma_to}

-- a frame, and the height of the bands that it is written in
pub record CanvasValue : Type 0 where
  pub frame : Frame
  pub height : BandHeight

abbrev pub frame_of : CanvasValue → Frame
frame_of canvas = canvas.frame

abbrev pub height_of : CanvasValue → ℕ
height_of canvas = canvas.height.rows

-- a canvas of this geometry, in bands of this height, with this line, whose samples are all 0
pub record IsBlankCanvas (g : Geometry) (h : BandHeight) (line : List ℕ) (canvas : CanvasValue) : Type 0 where
  pub frame : IsFrameWith g line (replicate (frame_len g) 0) (frame_of canvas)
  pub height : height_of canvas ≡ h.rows

-- a canvas keeps all but the line of its frame
pub record KeepsAllButLine (old new : CanvasValue) : Type 0 where
  pub geometry : (frame_of new).geometry ≡ (frame_of old).geometry
  pub height : height_of new ≡ height_of old
  pub samples : samples_of (frame_of new) ≡ samples_of (frame_of old)

-- these luma rows, from one on to another, of a canvas are its band k
pub record IsBandOf (old : CanvasValue) (k : ℕ) (canvas : CanvasValue) (first end : ℕ) : Type 0 where
  pub value : canvas ≡ old
  pub from : first ≡ luma_from (height_of old) k
  pub to : end ≡ luma_to (frame_of old).geometry (height_of old) k
