-- Bands of the image of a frame, one after another.
use Rattle.std.proofs.Common.{ℕ, ◌≡◌, ◌+◌, ◌*◌, ◌<◌, ◌≤◌, min, arith, ap, sym, ◌∙◌, subst}
use Rattle.std.specs.Int.{div_ceil}
use Rattle.std.proofs.lemmas.Grind.{div_ceil_times}
use Rattle.std.proofs.Math.Nat.{mul-le-mul_right}
use Rattle.y4m_header.specs.Chroma.{plane_count}
use Rattle.frame_view.specs.declared.frame.Frame.{Frame}
use Rattle.frame_view.specs.Places.{plane_width, plane_height}
use Rattle.frame_view.specs.Frame.{samples_of}
use Rattle.frame_view.specs.Rows.{sample}
use Rattle.row_bands.specs.Bands.{band_count, luma_from, luma_to}
use Rattle.row_bands.specs.Written.{HasBand}
use Rattle.row_bands.proofs.Bands.{rows_above-height}
use Rattle.row_bands.proofs.Parts.{starts_inside}
use Rattle.row_bands.proofs.Written.{HasRowsAbove, band_joins}

-- one more band of a canvas
pub next_band : (picture : ℕ → ℕ → ℕ → ℕ) (b b' k : ℕ) (old new : Frame) → 0 < b → b' ≡ b
    → k < band_count old.geometry b
    → HasRowsAbove picture (min old.geometry.height (luma_from b k)) old
    → HasBand picture (luma_from b k) (luma_to old.geometry b k) old new
    → HasRowsAbove picture (min new.geometry.height (luma_from b' (k + 1))) new
next_band picture b b' k old new hb same hk h band =
    let n = old.geometry.height in
    let starts : min n (luma_from b k) ≡ luma_from b k = omega (arith, starts_inside n b k hb hk) in
    let A : ℕ → Type 0 = λ z. HasRowsAbove picture z old in
    let B : ℕ → Type 0 = λ z. HasRowsAbove picture z new in
    let ends : luma_to old.geometry b k ≡ min new.geometry.height (luma_from b' (k + 1)) =
    ap (λ z. min z.height ((k + 1) * b)) (sym band.geometry)
    ∙ ap (λ z. min new.geometry.height ((k + 1) * z)) (sym same) in
    subst B ends
    (band_joins picture (luma_from b k) (luma_to old.geometry b k) old new (omega arith) (subst A starts h)
    band)

-- all bands are the whole frame
pub all_bands : (picture : ℕ → ℕ → ℕ → ℕ) (frame : Frame) (b k : ℕ) → 0 < b → band_count frame.geometry b ≤ k
    → HasRowsAbove picture (min frame.geometry.height (luma_from b k)) frame
    → (p y x : ℕ) → p < plane_count frame.geometry.chroma → y < plane_height frame.geometry p
    → x < plane_width frame.geometry p
    → sample frame.geometry (samples_of frame) p y x ≡ picture p y x
all_bands picture frame b k hb hk h p y x hp hy hx =
    let n = frame.geometry.height in
    let covered = div_ceil_times n b hb in
    let whole : min n (luma_from b k) ≡ n =
    omega (arith, covered.0, mul-le-mul_right {m = div_ceil n b} {n = k} b hk) in
    let A : ℕ → Type 0 = λ z. HasRowsAbove picture z frame in
    subst A whole h p y x hp (omega (arith, rows_above-height frame.geometry p)) hx
