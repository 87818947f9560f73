-- The image of a frame: by one operation, and by operations that follow one another.
use Rattle.std.specs.Prelude.{◌≡◌, ℕ, ◌+◌, List, [], ◌∷◌, length}
use Rattle.frame_view.specs.declared.geometry.Geometry.{Geometry}
use Rattle.frame_view.specs.declared.frame.Frame.{Frame}
use Rattle.frame_view.specs.Places.{frame_len}
use Rattle.frame_view.specs.Rows.{IsPlace, sample}
use Rattle.frame_view.specs.Frame.{line_of, samples_of}
use Rattle.row_bands.specs.declared.canvas.Canvas.{Canvas}
use Rattle.row_bands.specs.Canvas.{frame_of, height_of}
use Rattle.filters.specs.declared.op.Op.{Op}
use Rattle.filters.specs.Image.{image_pixel}
use Rattle.filters.specs.Chain.{ChainValue, IsImageGeometry, format_of, format_at}

-- a frame as a reader sees it
pub record FrameValue : Type 0 where
  pub geometry : Geometry
  pub line : List ℕ
  pub samples : List ℕ

abbrev pub value_of : Frame → FrameValue
value_of frame = record { geometry = frame.geometry; line = line_of frame; samples = samples_of frame }

-- the image of a frame by one operation, with whatever line: every pixel is as the operation's formula says
pub record IsImage (op : Op) (source image : FrameValue) : Type 0 where
  pub geometry : IsImageGeometry op source.geometry image.geometry
  pub whole : length image.samples ≡ frame_len image.geometry
  pub pixels : (p y x : ℕ) → IsPlace image.geometry p y x
      → sample image.geometry image.samples p y x ≡ image_pixel op source.geometry source.samples p y x

-- the image by several operations, with whatever line: each is done on the image that the one before it made
abbrev pub IsImageByAll : List Op → FrameValue → FrameValue → Type 0
IsImageByAll [] source image = image ≡ record source { line = image.line }
IsImageByAll (op ∷ ops) source image =
    (between : FrameValue) × IsImage op source between × IsImageByAll ops between image

-- the image by several operations, which has the frame's line
pub record IsChainImage (ops : List Op) (source image : FrameValue) : Type 0 where
  pub line : image.line ≡ source.line
  pub by_all : IsImageByAll ops source image

-- a canvas for the output of operation i of a chain
pub record IsCanvasAt (chain : ChainValue) (i : ℕ) (canvas : Canvas) : Type 0 where
  pub format : format_of (frame_of canvas).geometry ≡ format_at chain (i + 1)
  pub height : height_of canvas ≡ chain.band_height.rows
