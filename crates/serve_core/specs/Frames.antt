-- The frames and images of a machine, as its rules see them.
use Rattle.std.specs.Prelude.{◌≡◌, ◌↔◌, IsTrue}
use Rattle.filters.specs.ChainImage.{FrameValue, IsChainImage}
use Rattle.serve_core.specs.Setup.{ImageRelation, SizeTest}

-- a frame has the stream's size
abbrev pub measures : SizeTest FrameValue
measures spec frame is_sized = IsTrue is_sized ↔ (frame.geometry ≡ spec.geometry)

-- the image of a frame is that of the stream's chain
abbrev pub is_image : ImageRelation FrameValue FrameValue
is_image spec source image = IsChainImage spec.chain.ops source image
