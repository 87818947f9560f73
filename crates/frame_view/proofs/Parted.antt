-- Each byte of a frame is in one row of one plane.
use Rattle.std.proofs.Common.{ℕ, ◌≡◌, ◌+◌, ◌-◌, ◌*◌, ◌/◌, ◌%◌, ◌<◌, ◌≤◌, ◌⊎◌, inl, inr, zero, suc, arith, ap, sym, ◌∙◌, subst}
use Rattle.std.proofs.lemmas.Nat.{div-add-mod', div-mul-add, div_below}
use Rattle.y4m_header.specs.Chroma.{plane_count}
use Rattle.frame_view.specs.declared.geometry.Geometry.{Geometry}
use Rattle.frame_view.specs.Places.{plane_width, plane_height, plane_start, row_start, frame_len}
use Rattle.frame_view.specs.Rows.{IsPlace, IsInOneRow, EachByteInOneRow}
use Rattle.frame_view.proofs.Places.{first_plane, next_plane, next_row, planes_ordered, planes_fill}
use Rattle.frame_view.proofs.Places.{row_in_plane, row_in_frame, some_columns}

either_side : (i n : ℕ) → (i < n) ⊎ (n ≤ i)
either_side i n = grind arith

three : (q p : ℕ) → (q < p) ⊎ ((q ≡ p) ⊎ (p < q))
three q p = grind arith

-- the plane that a byte is in
plane_at : (g : Geometry) (n i : ℕ) → i < plane_start g n → (p : ℕ) × (p < n) × (plane_start g p ≤ i) × (i < plane_start g (p + 1))
plane_at g zero i h = absurd (omega (arith, first_plane g))
plane_at g (suc n) i h = elim (either_side i (plane_start g n)) [
  | inl l ↦ (let r = plane_at g n i l in (r.0, omega (arith, r.1), r.2, r.3))
  | inr l ↦ (n, omega arith, l, rw (let e : n + 1 ≡ suc n = omega arith in e) h)
]

same_plane : (g : Geometry) (p q z v i : ℕ) → plane_start g p ≤ i → i < plane_start g (p + 1) → IsPlace g q z v
    → i ≡ row_start g q z + v → q ≡ p
same_plane g p q z v i low high a e =
    let above : row_start g q z + v < plane_start g (q + 1) =
    omega (arith, row_in_plane g q (z + 1) (let k = a.row in omega arith), next_row g q z, a.column) in
    elim (three q p) [
      | inl l ↦ absurd (omega (arith, planes_ordered g (q + 1) p (omega arith)))
      | inr (inl s) ↦ s
      | inr (inr l) ↦ absurd (omega (arith, planes_ordered g (p + 1) q (omega arith)))
    ]

same_row : (w z v y x : ℕ) → v < w → x < w → z * w + v ≡ y * w + x → (z ≡ y) × (v ≡ x)
same_row w z v y x hv hx e =
    let s : z ≡ y = sym (div-mul-add z w v hv) ∙ ap (λ n. n / w) e ∙ div-mul-add y w x hx in
    (s, omega (arith, ap (λ n. n * w) s))

-- the byte at i is in one row
pub each_byte_in_one_row : (g : Geometry) (i : ℕ) → i < frame_len g → IsInOneRow g i
each_byte_in_one_row g i h =
    let a = plane_at g (plane_count g.chroma) i (omega (arith, planes_fill g)) in
    let p = a.0 in
    let w = plane_width g p in
    let k = i - plane_start g p in
    let y = k / w in
    let x = k % w in
    let some = some_columns g p in
    let split : y * w + x ≡ k = div-add-mod' k w in
    let inside : y < plane_height g p = div_below k w (plane_height g p) some (omega (arith, a.2, a.3, next_plane g p)) in
    let column : x < w = omega arith in (
      p,
      y,
      x,
      record { plane = a.1; row = inside; column = column },
      omega (arith, a.2, split),
      λ q z v b e.
          let s : q ≡ p = same_plane g p q z v i a.2 a.3 b e in
          let b' : IsPlace g p z v = (let P : ℕ → Type 0 = λ n. IsPlace g n z v in subst P s b) in
          let e' : i ≡ row_start g p z + v = (let P : ℕ → Type 0 = λ n. i ≡ row_start g n z + v in subst P s e) in
          let r = same_row w z v y x b'.column column (omega (arith, a.2, split)) in
          (s, r.0, r.1),
    )

place_in_frame : (g : Geometry) (p y x : ℕ) → IsPlace g p y x → row_start g p y + x < frame_len g
place_in_frame g p y x h =
    omega (arith, next_row g p y, h.column, row_in_frame g p (y + 1) h.plane (let k = h.row in omega arith))

pub rows_part : (g : Geometry) → EachByteInOneRow g
rows_part g = record { bytes = each_byte_in_one_row g; places = place_in_frame g }
