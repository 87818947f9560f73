-- The rows of the bands.
use Rattle.std.proofs.Common.{ℕ, ◌≡◌, ◌+◌, ◌-◌, ◌*◌, ◌/◌, ◌%◌, ◌<◌, ◌≤◌, ◌⊎◌, inl, inr, arith, refl, Bool, true, false, eqb, ◌||◌}
use Rattle.std.proofs.lemmas.Nat.{le-div}
use Rattle.std.proofs.Math.Nat.{div-mul-le_self}
use Rattle.y4m_header.specs.declared.chroma.Chroma.{Chroma}
use Rattle.y4m_header.specs.declared.chroma.Chroma.TheVariants.{S420, S422, S411, S444, S444Alpha, Mono}
use Rattle.y4m_header.specs.Chroma.{vertical_divisor}
use Rattle.frame_view.specs.declared.geometry.Geometry.{Geometry}
use Rattle.frame_view.specs.Places.{plane_height}
use Rattle.row_bands.specs.Bands.{band_count, rows_above, half_row, luma_from, luma_to, EachRowInOneBand}
use Rattle.row_bands.specs.Halves.{HalvesPartTheBand}
use Rattle.row_bands.proofs.Parts.{pick, in_one, some_rows}

one_or_two : (c : Chroma) → (vertical_divisor c ≡ 1) ⊎ (vertical_divisor c ≡ 2)
one_or_two S420 = inr refl
one_or_two S422 = inl refl
one_or_two S411 = inl refl
one_or_two S444 = inl refl
one_or_two S444Alpha = inl refl
one_or_two Mono = inl refl

div-mono : (a b k : ℕ) → a ≤ b → 0 < k → a / k ≤ b / k
div-mono a b k h hk = le-div (a / k) b k hk (omega (arith, div-mul-le_self a k))

pick-le : (t : Bool) (a b c d : ℕ) → a ≤ b → c ≤ d → pick t a c ≤ pick t b d
pick-le true a b c d h k = k
pick-le false a b c d h k = h

divisor-positive : (c : Chroma) → 0 < vertical_divisor c
divisor-positive S420 = omega arith
divisor-positive S422 = omega arith
divisor-positive S411 = omega arith
divisor-positive S444 = omega arith
divisor-positive S444Alpha = omega arith
divisor-positive Mono = omega arith

pub rows_above-le : (g : Geometry) (p a b : ℕ) → a ≤ b → rows_above g p a ≤ rows_above g p b
rows_above-le g p a b h = pick-le (eqb p 1 || eqb p 2) a b (a / vertical_divisor g.chroma)
    (b / vertical_divisor g.chroma) h (div-mono a b (vertical_divisor g.chroma) h (divisor-positive g.chroma))

pub rows_above-height : (g : Geometry) (p : ℕ) → rows_above g p g.height ≡ plane_height g p
unfolding plane_height
rows_above-height g p = refl

pub inside : (g : Geometry) (p n : ℕ) → n ≤ g.height → rows_above g p n ≤ plane_height g p
inside g p n h = omega (arith, rows_above-le g p n g.height h, rows_above-height g p)

pub band_has_rows : (g : Geometry) (p b k : ℕ) → 2 ≤ b → b % 2 ≡ 0 → k < band_count g b
    → rows_above g p (luma_from b k) < rows_above g p (luma_to g b k)
band_has_rows g p b k hb e h =
    some_rows (eqb p 1 || eqb p 2) (vertical_divisor g.chroma) g.height b k (one_or_two g.chroma) hb e g.rows_divided h

pub each_row_in_one_band : (g : Geometry) (b : ℕ) → 2 ≤ b → b % 2 ≡ 0 → EachRowInOneBand g b
unfolding plane_height
each_row_in_one_band g b hb e =
    λ p y hp hy. in_one (eqb p 1 || eqb p 2) (vertical_divisor g.chroma) g.height b y (one_or_two g.chroma) hb e g.rows_divided hy

pub half_above_middle : (g : Geometry) (from to : ℕ) → half_row g from to ≤ from + (to - from) / 2
half_above_middle g from to = div-mul-le_self (from + (to - from) / 2) (vertical_divisor g.chroma)

whole : (d n : ℕ) → (d ≡ 1) ⊎ (d ≡ 2) → (n / d * d) % d ≡ 0
whole d n (inl o) = rw o (omega arith)
whole d n (inr o) = rw o (omega arith)

-- no chroma row is cut
pub half_is_whole : (g : Geometry) (from to : ℕ) → half_row g from to % vertical_divisor g.chroma ≡ 0
half_is_whole g from to = whole (vertical_divisor g.chroma) (from + (to - from) / 2) (one_or_two g.chroma)

pub halves_part : (g : Geometry) (from row to : ℕ) → from ≤ row → row ≤ to → HalvesPartTheBand g from row to
halves_part g from row to h k = record {
  within_top = λ p y i. (i.0, omega (arith, i.1, rows_above-le g p row to k));
  within_bottom = λ p y i. (omega (arith, i.0, rows_above-le g p from row h), i.1);
  whole = λ p y i. elim (either_side y (rows_above g p row)) [ inl l ↦ inl (i.0, l) | inr l ↦ inr (l, i.1) ];
  apart = λ p y z i j. omega (arith, i.1, j.0);
}
  where
    either_side : (y f : ℕ) → (y < f) ⊎ (f ≤ y)
    either_side y f = grind arith
