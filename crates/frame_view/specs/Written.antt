-- What was written: rows of a plane with the samples of a picture, a function of plane, row and column.
use Rattle.std.specs.Prelude.{◌≡◌, ℕ, ◌+◌, ◌-◌, ◌*◌, ◌<◌, ◌≤◌, List, length, slice_index}
use Rattle.frame_view.specs.declared.geometry.Geometry.{Geometry}
use Rattle.frame_view.specs.declared.frame.Frame.{Frame}
use Rattle.frame_view.specs.Frame.{line_of, samples_of}
use Rattle.frame_view.specs.Places.{plane_width, row_start}
use Rattle.frame_view.specs.Rows.{sample}

-- xs is the rows of plane p of the picture from one place on to another, one after another
pub record IsRows (picture : ℕ → ℕ → ℕ → ℕ) (g : Geometry) (p from to : ℕ) (xs : List ℕ) : Type 0 where
  pub len : length xs ≡ (to - from) * plane_width g p
  pub samples : (y x : ℕ) → from ≤ y → y < to → x < plane_width g p
      → slice_index xs ((y - from) * plane_width g p + x) ≡ picture p y x

-- those rows of the new frame are the picture's, and every other byte is as before
pub record HasRows (picture : ℕ → ℕ → ℕ → ℕ) (p from to : ℕ) (old new : Frame) : Type 0 where
  pub geometry : new.geometry ≡ old.geometry
  pub line : line_of new ≡ line_of old
  pub rows : (y x : ℕ) → from ≤ y → y < to → x < plane_width old.geometry p
      → sample old.geometry (samples_of new) p y x ≡ picture p y x
  pub before : (i : ℕ) → i < row_start old.geometry p from
      → slice_index (samples_of new) i ≡ slice_index (samples_of old) i
  pub after : (i : ℕ) → row_start old.geometry p to ≤ i
      → slice_index (samples_of new) i ≡ slice_index (samples_of old) i
