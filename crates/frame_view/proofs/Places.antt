-- The places of planes and rows.
use Rattle.std.proofs.Common.{ℕ, ◌≡◌, ◌+◌, ◌*◌, ◌/◌, ◌%◌, ◌<◌, ◌≤◌, zero, suc, arith, refl, ap, ◌∙◌, add-one}
use Rattle.std.proofs.Common.{le_refl, Bool, true, false, eqb, ◌||◌, if◌then◌else◌, ◌⊎◌, inl, inr, nat_lt}
use Rattle.std.proofs.Math.Nat.{mul-le-mul_right}
use Rattle.std.proofs.lemmas.Grind.{common_steps}
use Rattle.y4m_header.specs.declared.chroma.Chroma.{Chroma}
use Rattle.y4m_header.specs.declared.limits.TheConstants.{LONGEST_SIDE}
use Rattle.y4m_header.specs.declared.chroma.Chroma.TheVariants.{S420, S422, S411, S444, S444Alpha, Mono}
use Rattle.y4m_header.specs.Chroma.{horizontal_divisor, vertical_divisor, plane_count, data_len}
use Rattle.frame_view.specs.declared.geometry.Geometry.{Geometry}
use Rattle.frame_view.specs.LentTogether.{lent_len}
use Rattle.frame_view.specs.Places.{plane_width, plane_height, plane_start, row_start, frame_len, by_plane}

pub next_row : (g : Geometry) (p y : ℕ) → row_start g p (y + 1) ≡ row_start g p y + plane_width g p
next_row g p y = grind arith

pub next_plane : (g : Geometry) (p : ℕ) → plane_start g (p + 1) ≡ plane_start g p + plane_width g p * plane_height g p
unfolding plane_start
next_plane g p = rw add-one refl

pub first_plane : (g : Geometry) → plane_start g 0 ≡ 0
unfolding plane_start
first_plane g = refl

pub planes_ordered : (g : Geometry) (p n : ℕ) → p ≤ n → plane_start g p ≤ plane_start g n
planes_ordered g p zero h = let e : p ≡ 0 = omega arith in rw e (le_refl _)
planes_ordered g p (suc n) h = grind (arith, planes_ordered g p n, next_plane g n)

pub rows_ordered : (g : Geometry) (p a b : ℕ) → a ≤ b → row_start g p a ≤ row_start g p b
rows_ordered g p a b h = omega (arith, mul-le-mul_right {m = a} {n = b} (plane_width g p) h)

pub row_in_plane : (g : Geometry) (p y : ℕ) → y ≤ plane_height g p → row_start g p y ≤ plane_start g (p + 1)
row_in_plane g p y h = omega (arith, next_plane g p, mul-le-mul_right {m = y} {n = plane_height g p} (plane_width g p) h)

abbrev divided_len : Geometry → ℕ
divided_len g = (g.width / horizontal_divisor g.chroma) * (g.height / vertical_divisor g.chroma)

start_1 : (g : Geometry) → plane_start g 1 ≡ g.width * g.height
unfolding plane_start plane_width plane_height
start_1 g = omega arith

start_3 : (g : Geometry) → plane_start g 3 ≡ g.width * g.height + 2 * divided_len g
unfolding plane_start plane_width plane_height
start_3 g = grind (arith, common_steps)

start_4 : (g : Geometry) → plane_start g 4 ≡ 2 * (g.width * g.height) + 2 * divided_len g
unfolding plane_start plane_width plane_height
start_4 g = grind (arith, common_steps)

by_one : (n : ℕ) → n / 1 ≡ n
by_one n = omega arith

-- the planes before number plane_count have the bytes of a frame
filled : (c : Chroma) (w h : ℕ) (start : ℕ → ℕ) → w % horizontal_divisor c ≡ 0 → h % vertical_divisor c ≡ 0 → start 1 ≡ w * h
    → start 3 ≡ w * h + 2 * ((w / horizontal_divisor c) * (h / vertical_divisor c))
    → start 4 ≡ 2 * (w * h) + 2 * ((w / horizontal_divisor c) * (h / vertical_divisor c))
    → start (plane_count c) ≡ data_len w h c
filled S420 w h start e k a b d = b
filled S422 w h start e k a b d =
    let halves : w ≡ 2 * (w / 2) = omega arith in
    b ∙ rw (by_one h) (omega (arith, ap (λ z. z * h) halves))
filled S411 w h start e k a b d = b ∙ rw (by_one h) refl
filled S444 w h start e k a b d = b ∙ rw (by_one h, by_one w) (omega arith)
filled S444Alpha w h start e k a b d = d ∙ rw (by_one h, by_one w) (omega arith)
filled Mono w h start e k a b d = a

pub planes_fill : (g : Geometry) → plane_start g (plane_count g.chroma) ≡ frame_len g
planes_fill g = filled g.chroma g.width g.height (plane_start g) g.columns_divided g.rows_divided (start_1 g) (start_3 g) (start_4 g)

pub row_in_frame : (g : Geometry) (p y : ℕ) → p < plane_count g.chroma → y ≤ plane_height g p → row_start g p y ≤ frame_len g
row_in_frame g p y hp hy =
    omega (arith, row_in_plane g p y hy, planes_ordered g (p + 1) (plane_count g.chroma) (omega arith), planes_fill g)

some_across : (c : Chroma) (n : ℕ) → 1 ≤ n → n % horizontal_divisor c ≡ 0 → 1 ≤ n / horizontal_divisor c
some_across S420 n h e = omega arith
some_across S422 n h e = omega arith
some_across S411 n h e = omega arith
some_across S444 n h e = omega arith
some_across S444Alpha n h e = omega arith
some_across Mono n h e = omega arith

some_down : (c : Chroma) (n : ℕ) → 1 ≤ n → n % vertical_divisor c ≡ 0 → 1 ≤ n / vertical_divisor c
some_down S420 n h e = omega arith
some_down S422 n h e = omega arith
some_down S411 n h e = omega arith
some_down S444 n h e = omega arith
some_down S444Alpha n h e = omega arith
some_down Mono n h e = omega arith

some_by_plane : (p full divided : ℕ) → 1 ≤ full → 1 ≤ divided → 1 ≤ by_plane p full divided
some_by_plane p full divided f d = by_test (eqb p 1 || eqb p 2) full divided f d
  where
    by_test : (b : Bool) (full divided : ℕ) → 1 ≤ full → 1 ≤ divided → 1 ≤ (if b then divided else full)
    by_test true full divided f d = d
    by_test false full divided f d = f

pub some_columns : (g : Geometry) (p : ℕ) → 1 ≤ plane_width g p
unfolding plane_width
some_columns g p = some_by_plane p g.width (g.width / horizontal_divisor g.chroma) g.some_columns
    (some_across g.chroma g.width g.some_columns g.columns_divided)

pub some_rows : (g : Geometry) (p : ℕ) → 1 ≤ plane_height g p
unfolding plane_height
some_rows g p =
    some_by_plane p g.height (g.height / vertical_divisor g.chroma) g.some_rows (some_down g.chroma g.height g.some_rows g.rows_divided)

low_by_plane : (p full divided n : ℕ) → full ≤ n → divided ≤ n → by_plane p full divided ≤ n
low_by_plane p full divided n f d = by_test (eqb p 1 || eqb p 2) f d
  where
    by_test : (b : Bool) → full ≤ n → divided ≤ n → (if b then divided else full) ≤ n
    by_test true f d = d
    by_test false f d = f

low_down : (c : Chroma) (h : ℕ) → h / vertical_divisor c ≤ h
low_down S420 h = omega arith
low_down S422 h = omega arith
low_down S411 h = omega arith
low_down S444 h = omega arith
low_down S444Alpha h = omega arith
low_down Mono h = omega arith

pub few_rows : (g : Geometry) (p : ℕ) → plane_height g p ≤ LONGEST_SIDE
unfolding plane_height
few_rows g p =
    low_by_plane p g.height (g.height / vertical_divisor g.chroma) LONGEST_SIDE g.low (omega (arith, low_down g.chroma g.height, g.low))

lent_by_count : (n a b c d : ℕ) → (n ≡ 1) ⊎ ((n ≡ 3) ⊎ (n ≡ 4)) → (start : ℕ → ℕ) → start 1 ≡ a → start 3 ≡ a + (b + c)
    → start 4 ≡ a + (b + (c + d))
    → (if nat_lt 0 n then a else 0)
    + ((if nat_lt 1 n then b else 0) + ((if nat_lt 2 n then c else 0) + (if nat_lt 3 n then d else 0))) ≡ start n
lent_by_count n a b c d (inl e) start x y z = rw e (omega (arith, x))
lent_by_count n a b c d (inr (inl e)) start x y z = rw e (omega (arith, y))
lent_by_count n a b c d (inr (inr e)) start x y z = rw e (omega (arith, z))

pub counts : (c : Chroma) → (plane_count c ≡ 1) ⊎ ((plane_count c ≡ 3) ⊎ (plane_count c ≡ 4))
counts S420 = inr (inl refl)
counts S422 = inr (inl refl)
counts S411 = inr (inl refl)
counts S444 = inr (inl refl)
counts S444Alpha = inr (inr refl)
counts Mono = inl refl

-- the lent planes are all of the frame
pub lent_fill : (g : Geometry) → lent_len g 0 + (lent_len g 1 + (lent_len g 2 + lent_len g 3)) ≡ frame_len g
lent_fill g =
    lent_by_count (plane_count g.chroma) (plane_width g 0 * plane_height g 0) (plane_width g 1 * plane_height g 1)
    (plane_width g 2 * plane_height g 2) (plane_width g 3 * plane_height g 3) (counts g.chroma) (plane_start g)
    (omega (arith, next_plane g 0, first_plane g))
    (omega (arith, next_plane g 0, next_plane g 1, next_plane g 2, first_plane g))
    (omega (arith, next_plane g 0, next_plane g 1, next_plane g 2, next_plane g 3, first_plane g))
    ∙ planes_fill g
