-- A blur reads samples of its plane alone.
use Rattle.std.proofs.Common.{ℕ, ◌≡◌, ◌+◌, ◌*◌, ◌/◌, ◌<◌, List, arith, ap, ◌∙◌, slice_index}
use Rattle.frame_view.specs.declared.geometry.Geometry.{Geometry}
use Rattle.frame_view.specs.Places.{plane_width, plane_height}
use Rattle.frame_view.specs.Rows.{sample, run_of}
use Rattle.filters.specs.Blur.{clamped, side, column_sum, blurred, pixel_of}
use Rattle.filters.proofs.BlurSums.{sum_below_same}
use Rattle.filters.proofs.ReadRows.{run-sample}

-- planes that agree inside have one blur
pub blurred_same : (f g : ℕ → ℕ → ℕ) (columns rows r y x : ℕ) → 0 < columns → 0 < rows
    → ((v u : ℕ) → v < rows → u < columns → f v u ≡ g v u)
    → blurred f columns rows r y x ≡ blurred g columns rows r y x
blurred_same f g columns rows r y x hc hr same =
    let n = side r * side r in
    ap (λ s. (s + n / 2) / n)
    (sum_below_same (λ j. column_sum f rows r y (clamped columns r x j))
    (λ j. column_sum g rows r y (clamped columns r x j)) (side r)
    (λ j p. sum_below_same (λ i. f (clamped rows r y i) (clamped columns r x j))
    (λ i. g (clamped rows r y i) (clamped columns r x j)) (side r)
    (λ i q. same (clamped rows r y i) (clamped columns r x j) (omega arith) (omega arith))))

-- the blur of a plane that was read whole
pub blurred_read : (g : Geometry) (bytes samples : List ℕ) (p columns rows r y x : ℕ)
    → columns ≡ plane_width g p → rows ≡ plane_height g p
    → samples ≡ run_of g bytes p 0 rows → 0 < columns → 0 < rows
    → blurred (pixel_of samples columns) columns rows r y x
    ≡ blurred (sample g bytes p) (plane_width g p) (plane_height g p) r y x
blurred_read g bytes samples p columns rows r y x ec er es hc hr =
    blurred_same (pixel_of samples columns) (sample g bytes p) columns rows r y x hc hr
    (λ v u a b. ap (λ k. slice_index samples (v * k + u)) ec
    ∙ ap (λ s. slice_index s (v * plane_width g p + u)) es
    ∙ run-sample g bytes p 0 rows v u (omega arith) (omega arith)
    ∙ ap (λ z. sample g bytes p z u) (let zero : 0 + v ≡ v = omega arith in zero))
    ∙ ap (λ k. blurred (sample g bytes p) k rows r y x) ec
    ∙ ap (λ k. blurred (sample g bytes p) (plane_width g p) k r y x) er
