-- The steps that are done stay done.
use Rattle.std.proofs.Common.{ℕ, ◌≡◌, ◌≢◌, ◌+◌, ◌*◌, ◌<◌, ◌≤◌, List, length, get_or, arith, sym, ap, ◌∙◌}
use Rattle.std.proofs.Common.{subst, inl, inr}
use Rattle.std.proofs.Math.Nat.{mul-le-mul_right}
use Rattle.std.proofs.lemmas.Bool.{cases_order}
use Rattle.std.proofs.lemmas.List.{get_or-set_same, get_or-set_other}
use Rattle.y4m_header.specs.Chroma.{plane_count}
use Rattle.frame_view.specs.declared.geometry.Geometry.{Geometry}
use Rattle.frame_view.specs.declared.frame.Frame.{Frame}
use Rattle.frame_view.specs.Frame.{samples_of}
use Rattle.frame_view.specs.Places.{plane_width, plane_height}
use Rattle.frame_view.specs.Rows.{sample}
use Rattle.row_bands.specs.Bands.{IsInBand, luma_from, luma_to, rows_above}
use Rattle.row_bands.specs.Written.{HasBand}
use Rattle.row_bands.proofs.Bands.{inside, rows_above-le}
use Rattle.filters.specs.declared.op.Op.{Op}
use Rattle.filters.specs.Chain.{ChainValue}
use Rattle.filters.specs.Steps.{IsStep, counts_of}
use Rattle.filters.proofs.ChainSteps.{step_after}
use Rattle.lease.specs.Job.{HoldsBand, AreDone, WritesBand, picture_of}

-- the band that was written
holds_new : (picture : ℕ → ℕ → ℕ → ℕ) (b k : ℕ) (old new : Frame)
    → HasBand picture (luma_from b k) (luma_to old.geometry b k) old new
    → HoldsBand picture b k new
holds_new picture b k old new band =
    let Q : Geometry → Type 0 =
    λ g. (p y x : ℕ) → p < plane_count g.chroma → IsInBand g b k p y → x < plane_width g p
    → sample g (samples_of new) p y x ≡ picture p y x in
    subst Q (sym band.geometry) (λ p y x hp hy hx. band.rows p y x hp hy.0 hy.1 hx)

-- rows of a band above another
row_above : (g : Geometry) (b j k p y : ℕ) → j < k → IsInBand g b j p y → y < rows_above g p (luma_from b k)
row_above g b j k p y h at =
    let ends : (j + 1) * b ≤ k * b = mul-le-mul_right {m = j + 1} {n = k} b (omega (arith, h)) in
    omega (arith, at.1, rows_above-le g p (luma_to g b j) (luma_from b k) (omega (arith, ends)))

-- a band above the one that was written
holds_still : (picture other : ℕ → ℕ → ℕ → ℕ) (b j k : ℕ) (old new : Frame) → j < k
    → HasBand picture (luma_from b k) (luma_to old.geometry b k) old new
    → HoldsBand other b j old → HoldsBand other b j new
holds_still picture other b j k old new h band holds =
    let Q : Geometry → Type 0 =
    λ g. (p y x : ℕ) → p < plane_count g.chroma → IsInBand g b j p y → x < plane_width g p
    → sample g (samples_of new) p y x ≡ other p y x in
    subst Q (sym band.geometry)
    (λ p y x hp hy hx.
    let within : y < plane_height old.geometry p =
    omega (arith, hy.1, inside old.geometry p (luma_to old.geometry b j) (omega arith)) in
    band.others p y x hp within hx (inl (row_above old.geometry b j k p y h hy)) ∙ holds p y x hp hy hx)

-- what stands in a frame that wasn't written, and what it is made of, are as before
holds_elsewhere : (chain : ChainValue) (frames frames' : List Frame) (i m : ℕ) (o : Op) (d : Frame)
    → get_or frames' i d ≡ get_or frames i d → get_or frames' (i + 1) d ≡ get_or frames (i + 1) d
    → HoldsBand (picture_of chain frames i o d) chain.band_height.rows m (get_or frames (i + 1) d)
    → HoldsBand (picture_of chain frames' i o d) chain.band_height.rows m (get_or frames' (i + 1) d)
holds_elsewhere chain frames frames' i m o d e f holds = rw (e, f) holds

pub done_more : (chain : ChainValue) (frames frames' : List Frame) (k op band : ℕ)
    → IsStep (counts_of chain) k op band → op + 1 < length frames
    → WritesBand chain op band frames frames' → AreDone chain frames k → AreDone chain frames' (k + 1)
done_more chain frames frames' k op band s h written done j i m o d l t =
    let b = chain.band_height.rows in
    let same_at : (n : ℕ) → n ≢ op + 1 → get_or frames' n d ≡ get_or frames n d =
    λ n e. ap (λ fs. get_or fs n d) written.others ∙ get_or-set_other frames (op + 1) n written.image d e in
    elim (cases_order i op) [
      | inl at ↦
          let image : get_or frames' (i + 1) d ≡ written.image =
          ap (λ n. get_or frames' (n + 1) d) at ∙ ap (λ fs. get_or fs (op + 1) d) written.others
          ∙ get_or-set_same frames (op + 1) written.image d h in
          let source : get_or frames' i d ≡ get_or frames op d = same_at i (omega (arith, at))
          ∙ ap (λ n. get_or frames n d) at in
          elim (cases_order m band) [
            | inl one ↦ rw (image, source, at, one) (holds_new _ b band _ written.image (written.rows o d))
            | inr order ↦ elim order [
              | inl above ↦
                  let before : j < k = omega (arith, s.number, rw at at t.number, above) in
                  let held : HoldsBand (picture_of chain frames op o d) b m (get_or frames (op + 1) d) =
                  rw at at (done j i m o d before t) in
                  rw (image, source, at)
                  (holds_still _ _ b m band _ written.image above (written.rows o d) held)
              | inr below ↦ absurd (omega (arith, s.number, rw at at t.number, below, l))
            ]
          ]
      | inr order ↦ elim order [
        | inl earlier ↦
            let before : j < k =
            omega (arith, t.number, step_after (counts_of chain) k op band i m s earlier t.of_op) in
            holds_elsewhere chain frames frames' i m o d (same_at i (omega (arith, earlier)))
            (same_at (i + 1) (omega (arith, earlier))) (done j i m o d before t)
        | inr later ↦
            absurd (omega (arith, s.number, step_after (counts_of chain) j i m op band t later s.of_op, l))
      ]
    ]
