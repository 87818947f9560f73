-- What a frame becomes when a part of it, lent for writing, comes back.
use Rattle.std.specs.Prelude.{ℕ, ◌≡◌, ◌≢◌, ◌*◌, ◌-◌, ◌<◌, ◌≤◌, ◌⊎◌, List, length}
use Rattle.std.specs.Borrow.{Lends, MutBor, Fml, u8, Array}
use Rattle.std.specs.Vec.{with_items, with_items_from}
use Rattle.frame_view.specs.declared.frame.Frame.{Frame}
use Rattle.frame_view.specs.contracts.frame.Frame.{the_row as frame_row}
use Rattle.y4m_header.specs.Chroma.{plane_count}
use Rattle.frame_view.specs.Frame.{samples_of}
use Rattle.frame_view.specs.Places.{plane_width, plane_height, row_start}
use Rattle.frame_view.specs.Rows.{run_of, row_of}

-- the frame with these data in place of its own
abbrev pub with_all_samples : Frame → List ℕ → Frame
with_all_samples f ws = record {
  geometry = f.geometry;
  line = f.line;
  samples = with_items f.samples ws;
  fits = f.fits;
  lined = f.lined;
}

-- the frame with these bytes written over its own from a place on
abbrev pub with_samples : Frame → ℕ → List ℕ → Frame
with_samples f i ws = record {
  geometry = f.geometry;
  line = f.line;
  samples = with_items_from f.samples i ws;
  fits = f.fits;
  lined = f.lined;
}

-- all data are lent
abbrev pub LendsSamples : MutBor Frame → MutBor (List ℕ) → Fml
LendsSamples f r = Lends frame_row (Array u8 0) f r (with_all_samples f.now)

-- the frame with these rows written over those of plane p from row `from` on
abbrev pub with_rows : Frame → ℕ → ℕ → List ℕ → Frame
with_rows f p from ws = with_samples f (row_start f.geometry p from) ws

-- the rows of plane p from row `from` on are lent
abbrev pub LendsRows : MutBor Frame → ℕ → ℕ → MutBor (List ℕ) → Fml
LendsRows f p from r = Lends frame_row (Array u8 0) f r (with_rows f.now p from)

-- in plane p the new frame has these rows from one place on to another, and each other row is as it was
pub record ReplacesRows (p from to : ℕ) (ws : List ℕ) (old new : Frame) : Type 0 where
  pub rows : run_of old.geometry (samples_of new) p from to ≡ ws
  pub others : (q z : ℕ) → q < plane_count old.geometry.chroma → z < plane_height old.geometry q
      → (q ≢ p) ⊎ ((z < from) ⊎ (to ≤ z))
      → row_of old.geometry (samples_of new) q z ≡ row_of old.geometry (samples_of old) q z

-- lent rows come back in their places, whatever was written into them, and each other row is as it was
abbrev pub LentRowsLeaveTheOthers : Frame → Type 0
LentRowsLeaveTheOthers f = (p from to : ℕ) (ws : List ℕ) → p < plane_count f.geometry.chroma → from ≤ to
    → to ≤ plane_height f.geometry p → length ws ≡ (to - from) * plane_width f.geometry p
    → ReplacesRows p from to ws f (with_rows f p from ws)
