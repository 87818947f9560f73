-- What is written by a step.
use Rattle.std.proofs.Common.{ℕ, ◌≡◌, ◌+◌, ◌<◌, List, ◌++◌, length, get_or, slice_set, codes, sym, ap, ◌∙◌}
use Rattle.std.proofs.Common.{subst}
use Rattle.frame_view.specs.declared.frame.Frame.{Frame}
use Rattle.frame_view.specs.declared.geometry.Geometry.{Geometry}
use Rattle.frame_view.specs.Frame.{line_of, samples_of}
use Rattle.row_bands.specs.declared.canvas.Canvas.{Canvas}
use Rattle.row_bands.specs.Canvas.{frame_of, height_of}
use Rattle.row_bands.specs.Bands.{band_count, luma_from, luma_to, CanBeHalved}
use Rattle.row_bands.specs.Written.{HasBand}
use Rattle.filters.specs.declared.op.Op.{Op}
use Rattle.filters.specs.Image.{image_pixel}
use Rattle.filters.specs.Chain.{ChainValue, format_of}
use Rattle.filters.specs.Steps.{counts_of}
use Rattle.filters.proofs.ChainSteps.{length-band_counts, count_of_output}
use Rattle.filters.specs.ChainImage.{IsCanvasAt}
use Rattle.lease.specs.Canvases.{IsScratch}
use Rattle.std.proofs.lemmas.List.{length-set}
use Rattle.filters.proofs.ChainImages.{canvas_rest}
use Rattle.lease.proofs.Lists.{each_set}
use Rattle.lease.specs.Halved.{CanHalveBand}
use Rattle.lease.specs.Job.{WritesBand}

pub writes : (chain : ChainValue) (op band : ℕ) (frames frames' : List Frame) (o : Op) (b : ℕ)
    (reached before image : Frame)
    → ((d : Op) → get_or chain.ops op d ≡ o) → ((d : Frame) → get_or frames op d ≡ reached)
    → ((d : Frame) → get_or frames (op + 1) d ≡ before)
    → b ≡ chain.band_height.rows → frames' ≡ slice_set frames (op + 1) image
    → HasBand (image_pixel o reached.geometry (samples_of reached)) (luma_from b band)
    (luma_to before.geometry b band) before image
    → WritesBand chain op band frames frames'
writes chain op band frames frames' o b reached before image is at there height others has = record {
  image = image;
  others = others;
  rows = λ e d. rw (is e, at d, there d, sym height) has;
}

-- a band of an operation is one of its canvas
pub band_inside : (chain : ChainValue) (i band : ℕ) (canvas : Canvas) → i < length chain.ops
    → IsCanvasAt chain i canvas
    → band < get_or (counts_of chain) i 0 → band < band_count (frame_of canvas).geometry (height_of canvas)
band_inside chain i band canvas h is l =
    let within : i < length (counts_of chain) = rw length-band_counts h in
    let count : band_count (frame_of canvas).geometry (height_of canvas) ≡ get_or (counts_of chain) i 0 =
    ap (band_count (frame_of canvas).geometry) is.height
    ∙ count_of_output chain i (frame_of canvas).geometry within is.format in
    let P : ℕ → Type 0 = λ n. band < n in
    subst P (sym count) l

-- a canvas keeps its size
pub same_size : (chain : ChainValue) (i : ℕ) (old new : Canvas) → IsCanvasAt chain i old
    → (frame_of new).geometry ≡ (frame_of old).geometry → height_of new ≡ height_of old
    → IsCanvasAt chain i new
same_size chain i old new is geometry height =
    record { format = rw geometry is.format; height = height ∙ is.height }

pub scratch_set : (chain : ChainValue) (scratch : List Canvas) (i : ℕ) (canvas : Canvas)
    → IsScratch chain scratch → i < length scratch
    → IsCanvasAt chain i canvas → line_of (frame_of canvas) ≡ codes "FRAME"
    → IsScratch chain (slice_set scratch i canvas)
scratch_set chain scratch i canvas is h new line = record {
  count = ap (λ n. n + 1) (length-set scratch i canvas) ∙ is.count;
  each = each_set (IsCanvasAt chain) scratch i canvas is.each h new;
  lines = each_set (λ _ held. line_of (frame_of held) ≡ codes "FRAME") scratch i canvas is.lines h line;
}

-- the canvas at the front of the rest
pub rest_is : (chain : ChainValue) (scratch before rest : List Canvas) (i : ℕ) (d : Canvas)
    → IsScratch chain scratch → i < length scratch
    → scratch ≡ before ++ rest → length before ≡ i → IsCanvasAt chain i (get_or rest 0 d)
rest_is chain scratch before rest i d is h e n =
    rw (sym (canvas_rest before rest scratch i d e n)) (is.each i d h)

pub rest_line : (chain : ChainValue) (scratch before rest : List Canvas) (i : ℕ) (d : Canvas)
    → IsScratch chain scratch → i < length scratch
    → scratch ≡ before ++ rest → length before ≡ i → line_of (frame_of (get_or rest 0 d)) ≡ codes "FRAME"
rest_line chain scratch before rest i d is h e n =
    rw (sym (canvas_rest before rest scratch i d e n)) (is.lines i d h)

-- what can be halved depends on the height and the form of an image alone
halved_alike : (one other : Geometry) (rows height band : ℕ) → one.height ≡ other.height → one.chroma ≡ other.chroma
    → rows ≡ height → CanBeHalved other (luma_from height band) (luma_to other height band)
    → CanBeHalved one (luma_from rows band) (luma_to one rows band)
halved_alike one other rows height band e f h can = rw (h, e, f) can

-- a band that can be halved in an operation's image can be halved in its canvas
pub halves_canvas : (chain : ChainValue) (op band : ℕ) (canvas : Canvas) → IsCanvasAt chain op canvas
    → CanHalveBand chain op band
    → CanBeHalved (frame_of canvas).geometry (luma_from (height_of canvas) band)
    (luma_to (frame_of canvas).geometry (height_of canvas) band)
halves_canvas chain op band canvas is can =
    let same : format_of (frame_of canvas).geometry ≡ format_of can.image = is.format ∙ sym can.format in
    halved_alike (frame_of canvas).geometry can.image (height_of canvas) chain.band_height.rows band
    (ap (λ f. f.height) same) (ap (λ f. f.chroma) same) is.height can.rows
