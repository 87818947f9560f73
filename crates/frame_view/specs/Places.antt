-- Where the planes of a frame and their rows stand in its bytes.
use Rattle.std.specs.Prelude.{ℕ, ◌+◌, ◌*◌, ◌/◌, zero, suc, Bool, ◌==◌, ◌||◌, if◌then◌else◌}
use Rattle.y4m_header.specs.Chroma.{horizontal_divisor, vertical_divisor, data_len}
use Rattle.frame_view.specs.declared.geometry.Geometry.{Geometry}

-- plane 1 is Cb, plane 2 Cr
abbrev pub is_chroma_plane : ℕ → Bool
is_chroma_plane p = (p == 1) || (p == 2)

-- the chroma planes have the divided size, the others the full one
abbrev pub by_plane : ℕ → ℕ → ℕ → ℕ
by_plane p full divided = if is_chroma_plane p then divided else full

unfoldable pub plane_width : Geometry → ℕ → ℕ
plane_width g p = by_plane p g.width (g.width / horizontal_divisor g.chroma)

unfoldable pub plane_height : Geometry → ℕ → ℕ
plane_height g p = by_plane p g.height (g.height / vertical_divisor g.chroma)

-- each plane follows the one before it
unfoldable pub plane_start : Geometry → ℕ → ℕ
plane_start g zero = 0
plane_start g (suc p) = plane_start g p + plane_width g p * plane_height g p

-- the rows of a plane follow one another, with nothing between them
abbrev pub row_start : Geometry → ℕ → ℕ → ℕ
row_start g p y = plane_start g p + y * plane_width g p

-- the bytes of a whole frame
abbrev pub frame_len : Geometry → ℕ
frame_len g = data_len g.width g.height g.chroma
