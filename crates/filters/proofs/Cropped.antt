-- A rectangle lies in every plane that it is taken from.
use Rattle.std.proofs.Common.{ℕ, ◌≡◌, ◌+◌, ◌/◌, ◌%◌, ◌≤◌, arith, Bool, true, false, if◌then◌else◌}
use Rattle.std.proofs.Common.{ap, ◌∙◌}
use Rattle.y4m_header.specs.declared.chroma.Chroma.{Chroma}
use Rattle.y4m_header.specs.declared.chroma.Chroma.TheVariants.{S420, S422, S411, S444, S444Alpha, Mono}
use Rattle.y4m_header.specs.Chroma.{horizontal_divisor, vertical_divisor}
use Rattle.frame_view.specs.declared.geometry.Geometry.{Geometry}
use Rattle.frame_view.specs.Places.{plane_width, plane_height, by_plane, is_chroma_plane}
use Rattle.filters.specs.declared.op.Op.TheVariants.{Crop}
use Rattle.filters.specs.declared.op.Crop.{Crop as Rectangle}
use Rattle.filters.specs.Pixel.{offset}
use Rattle.filters.specs.Ops.{IsRectangleOf}
use Rattle.filters.specs.Chain.{IsImageGeometry}

quotients_across : (c : Chroma) (x w n : ℕ) → x % horizontal_divisor c ≡ 0 → x + w ≤ n
    → x / horizontal_divisor c + w / horizontal_divisor c ≤ n / horizontal_divisor c
quotients_across S420 x w n h k = omega arith
quotients_across S422 x w n h k = omega arith
quotients_across S411 x w n h k = omega arith
quotients_across S444 x w n h k = omega arith
quotients_across S444Alpha x w n h k = omega arith
quotients_across Mono x w n h k = omega arith

quotients_down : (c : Chroma) (y h n : ℕ) → y % vertical_divisor c ≡ 0 → y + h ≤ n
    → y / vertical_divisor c + h / vertical_divisor c ≤ n / vertical_divisor c
quotients_down S420 y h n e k = omega arith
quotients_down S422 y h n e k = omega arith
quotients_down S411 y h n e k = omega arith
quotients_down S444 y h n e k = omega arith
quotients_down S444Alpha y h n e k = omega arith
quotients_down Mono y h n e k = omega arith

by_test : (b : Bool) (x w n x' w' n' : ℕ) → x + w ≤ n → x' + w' ≤ n'
    → (if b then x' else x) + (if b then w' else w) ≤ (if b then n' else n)
by_test true x w n x' w' n' h k = k
by_test false x w n x' w' n' h k = h

pub columns_within : (crop : Rectangle) (g image : Geometry) (p : ℕ) → IsRectangleOf crop g
    → IsImageGeometry (Crop crop) g image
    → offset p crop.x (horizontal_divisor g.chroma) + plane_width image p ≤ plane_width g p
unfolding plane_width
columns_within crop g image p r i =
    let width : image.width ≡ crop.width = ap (λ format. format.width) i.format in
    let chroma : image.chroma ≡ g.chroma = ap (λ format. format.chroma) i.format in
    let wide : by_plane p image.width (image.width / horizontal_divisor image.chroma)
    ≡ by_plane p crop.width (crop.width / horizontal_divisor g.chroma) =
    ap (λ z. by_plane p image.width (image.width / horizontal_divisor z)) chroma
    ∙ ap (λ z. by_plane p z (z / horizontal_divisor g.chroma)) width in
    rw wide (by_test (is_chroma_plane p) crop.x crop.width g.width _ _ _ r.across
    (quotients_across g.chroma crop.x crop.width g.width r.whole_x r.across))

pub rows_within : (crop : Rectangle) (g image : Geometry) (p : ℕ) → IsRectangleOf crop g
    → IsImageGeometry (Crop crop) g image
    → offset p crop.y (vertical_divisor g.chroma) + plane_height image p ≤ plane_height g p
unfolding plane_height
rows_within crop g image p r i =
    let height : image.height ≡ crop.height = ap (λ format. format.height) i.format in
    let chroma : image.chroma ≡ g.chroma = ap (λ format. format.chroma) i.format in
    let high : by_plane p image.height (image.height / vertical_divisor image.chroma)
    ≡ by_plane p crop.height (crop.height / vertical_divisor g.chroma) =
    ap (λ z. by_plane p image.height (image.height / vertical_divisor z)) chroma
    ∙ ap (λ z. by_plane p z (z / vertical_divisor g.chroma)) height in
    rw high (by_test (is_chroma_plane p) crop.y crop.height g.height _ _ _ r.down
    (quotients_down g.chroma crop.y crop.height g.height r.whole_y r.down))
