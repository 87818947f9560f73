-- What a frame is: its geometry, its line and its data.
use Rattle.std.specs.Prelude.{◌≡◌, ℕ, List}
use Rattle.frame_view.specs.declared.geometry.Geometry.{Geometry}
use Rattle.frame_view.specs.declared.frame.Frame.{Frame}

abbrev pub line_of : Frame → List ℕ
line_of f = f.line.items

abbrev pub samples_of : Frame → List ℕ
samples_of f = f.samples.items

-- a frame of this geometry with this line and these data
pub record IsFrameWith (its_geometry : Geometry) (its_line its_data : List ℕ) (f : Frame) : Type 0 where
  pub geometry : f.geometry ≡ its_geometry
  pub line : line_of f ≡ its_line
  pub samples : samples_of f ≡ its_data
