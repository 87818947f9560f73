-- The four planes that are lent at once, and what comes back.
use Rattle.std.specs.Prelude.{ℕ, zero, suc, ◌*◌, List, length, take, drop, ◌++◌, nat_lt, if◌then◌else◌}
use Rattle.std.specs.Borrow.{LendsBoth, MutBor, Fml, u8, Array}
use Rattle.y4m_header.specs.Chroma.{plane_count}
use Rattle.frame_view.specs.declared.geometry.Geometry.{Geometry}
use Rattle.frame_view.specs.Places.{plane_width, plane_height}

-- a plane that the frame hasn't is lent as one of no samples
abbrev pub if_there : Geometry → ℕ → ℕ → ℕ
if_there g p n = if nat_lt p (plane_count g.chroma) then n else 0

abbrev pub lent_columns : Geometry → ℕ → ℕ
lent_columns g p = if_there g p (plane_width g p)

abbrev pub lent_len : Geometry → ℕ → ℕ
lent_len g p = if_there g p (plane_width g p * plane_height g p)

-- which of the four is plane p
abbrev pub of_plane : ℕ → List ℕ → List ℕ → List ℕ → List ℕ → List ℕ
of_plane zero luma cb cr alpha = luma
of_plane (suc zero) luma cb cr alpha = cb
of_plane (suc (suc zero)) luma cb cr alpha = cr
of_plane (suc (suc (suc p))) luma cb cr alpha = alpha

-- samples with their row y replaced
abbrev pub put_row : List ℕ → ℕ → ℕ → List ℕ → List ℕ
put_row samples columns y row =
    take (y * columns) samples ++ (row ++ drop (length row) (drop (y * columns) samples))

-- the two parts are put together again
abbrev pub LendsParts : MutBor (List ℕ) → MutBor (List ℕ) × MutBor (List ℕ) → Fml
LendsParts samples parts = LendsBoth (Array u8 0) (Array u8 0) (Array u8 0) samples parts ◌++◌
