-- What clauses see of a chain with its canvases.
use Rattle.std.specs.Prelude.{◌≡◌, List, IfSome}
use Rattle.frame_view.specs.declared.frame.Frame.{Frame}
use Rattle.frame_view.specs.Frame.{line_of}
use Rattle.row_bands.specs.declared.canvas.Canvas.{Canvas}
use Rattle.row_bands.specs.Canvas.{frame_of}
use Rattle.filters.specs.Chain.{ChainValue}
use Rattle.filters.specs.ChainImage.{IsChainImage, value_of}
use Rattle.filters.specs.Front.{image_in, last_canvas}

-- the chain, and a canvas for each of its operations behind the tables in front
pub record ImagesValue : Type 0 where
  pub chain : ChainValue
  pub canvases : List Canvas

-- the last canvas, if there is one, has the line of this frame
abbrev pub HasLineOf : Frame → ImagesValue → Type 0
HasLineOf source images =
    IfSome (last_canvas images.canvases) (λ canvas. line_of (frame_of canvas) ≡ line_of source)

-- the last canvas, or this frame where there is none, holds the image of what the frame was
abbrev pub HoldsImage : ImagesValue → Frame → Frame → Type 0
HoldsImage images was now =
    IsChainImage images.chain.ops (value_of was) (value_of (image_in now images.canvases))
