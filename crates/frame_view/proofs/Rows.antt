-- Rows as slices of the flat bytes.
use Rattle.std.proofs.Common.{ℕ, ◌≡◌, ◌+◌, ◌-◌, ◌*◌, ◌<◌, ◌≤◌, List, [], ◌∷◌, take, drop, map, Some}
use Rattle.std.proofs.Common.{slice_get, slice_range, arith, refl, sym, ap, ◌∙◌, zero, suc}
use Rattle.std.specs.List.{range_with_len}
use Rattle.std.proofs.Math.Nat.{mul-le-mul_right}
use Rattle.std.proofs.lemmas.List.{take-take, drop-drop, drop-take}
use Rattle.std.proofs.lemmas.List.FromFn.{get_or-map-range_with_len, length-map-range_with_len}
use Rattle.std.proofs.lemmas.Option.{slice_get-get_or}
use Rattle.frame_view.specs.declared.geometry.Geometry.{Geometry}
use Rattle.frame_view.specs.Places.{plane_width, plane_start, row_start}
use Rattle.frame_view.specs.Rows.{run_of}

slice_range-slice_range : (xs : List ℕ) (a b i j : ℕ) → i ≤ j → a + j ≤ b
    → slice_range (slice_range xs a b) i j ≡ slice_range xs (a + i) (a + j)
slice_range-slice_range xs a b i j h k =
    let m : b - a ≡ i + (b - a - i) = omega arith in
    let n : (a + j) - (a + i) ≡ j - i = omega arith in
    ap (λ z. take (j - i) (drop i (take z (drop a xs)))) m
    ∙ ap (take (j - i)) (drop-take i (b - a - i) (drop a xs))
    ∙ take-take (j - i) (b - a - i) (drop i (drop a xs)) (omega arith)
    ∙ ap (take (j - i)) (drop-drop i a xs)
    ∙ ap (λ z. take z (drop (a + i) xs)) (sym n)

-- some rows of some rows
pub run_of-part : (g : Geometry) (bytes samples : List ℕ) (p h from to w : ℕ) → w ≡ plane_width g p
    → samples ≡ run_of g bytes p 0 h → from ≤ to → to ≤ h
    → slice_range samples (from * w) (to * w) ≡ run_of g bytes p from to
run_of-part g bytes samples p h from to w e s a b =
    rw (s, e) (
    slice_range-slice_range bytes (row_start g p 0) (row_start g p h) (from * plane_width g p) (to * plane_width g p)
    (mul-le-mul_right {m = from} {n = to} (plane_width g p) a) (omega (arith, mul-le-mul_right {m = to} {n = h} (plane_width g p) b))
    ∙ ap (λ z. slice_range bytes (z + from * plane_width g p) (z + to * plane_width g p))
    (let q : row_start g p 0 ≡ plane_start g p = omega arith in q))

pub slice_get-map-range : (f : ℕ → List ℕ) (n y : ℕ) → y < n → slice_get (map f (range_with_len 0 n)) y ≡ Some (f y)
slice_get-map-range f n y h =
    slice_get-get_or (map f (range_with_len 0 n)) y [] (rw (length-map-range_with_len f 0 n) h)
    ∙ ap Some (get_or-map-range_with_len f 0 n y y [] h (omega arith))

same_from : (f g : ℕ → List ℕ) (a n : ℕ) → ((y : ℕ) → a ≤ y → y < a + n → f y ≡ g y)
    → map f (range_with_len a n) ≡ map g (range_with_len a n)
same_from f g a zero h = refl
same_from f g a (suc n) h =
    ap (λ z. z ∷ map f (range_with_len (a + 1) n)) (h a (omega arith) (omega arith))
    ∙ ap (λ z. g a ∷ z) (same_from f g (a + 1) n (λ y b l. h y (omega arith) (omega arith)))

pub map-range-same : (f g : ℕ → List ℕ) (n : ℕ) → ((y : ℕ) → y < n → f y ≡ g y) → map f (range_with_len 0 n) ≡ map g (range_with_len 0 n)
map-range-same f g n h = same_from f g 0 n (λ y b l. h y (omega arith))
