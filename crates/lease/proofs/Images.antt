-- A job whose steps are all done has the chain's image.
use Rattle.std.proofs.Common.{ℕ, ◌≡◌, ◌+◌, ◌<◌, ◌≤◌, zero, suc, List, length, take, sum, get_or, Some, arith}
use Rattle.std.proofs.Common.{refl, sym, ap, ◌∙◌, subst, add-one, inl, inr}
use Rattle.std.proofs.lemmas.Bool.{cases_order}
use Rattle.std.proofs.lemmas.List.{take_all}
use Rattle.std.proofs.lemmas.List.Sums.{sum_by_more, sum_by-take-le}
use Rattle.frame_view.specs.declared.frame.Frame.{Frame}
use Rattle.frame_view.specs.Frame.{samples_of}
use Rattle.frame_view.specs.Rows.{IsPlace, sample}
use Rattle.row_bands.specs.declared.canvas.Canvas.{Canvas}
use Rattle.row_bands.specs.Canvas.{frame_of}
use Rattle.row_bands.specs.Bands.{band_count}
use Rattle.row_bands.proofs.Bands.{each_row_in_one_band}
use Rattle.filters.specs.declared.op.Op.{Op}
use Rattle.filters.specs.declared.op.Op.TheVariants.{HFlip}
use Rattle.filters.specs.Chain.{ChainValue, format_of, format_at}
use Rattle.filters.specs.ChainImage.{value_of, IsImage, IsImageByAll, IsChainImage}
use Rattle.filters.specs.Steps.{IsStep, counts_of, steps_of}
use Rattle.filters.proofs.ChainDoable.{image_geometry_at}
use Rattle.filters.proofs.ChainImages.{image_more}
use Rattle.filters.proofs.ChainSteps.{length-band_counts, count_of_output}
use Rattle.lease.specs.Canvases.{IsScratch}
use Rattle.lease.specs.Job.{JobValue, IsJob, AreDone, frames_by, picture_of}
use Rattle.lease.proofs.Frames.{format_between, format_last, frame_last}
use Rattle.lease.proofs.Jobs.{frames_started}

-- each band has a step
step_within : (counts : List ℕ) (i j : ℕ) → i < length counts → j < get_or counts i 0
    → sum (take i counts) + j < sum counts
step_within counts i j h l =
    omega (arith, l, sum_by_more (λ n. n) counts i 0 h, sum_by-take-le (λ n. n) counts (i + 1))

-- the frames have the formats of the chain
record AreShaped (chain : ChainValue) (frames : List Frame) : Type 0 where
  format : (i : ℕ) (d : Frame) → i ≤ length chain.ops → format_of (get_or frames i d).geometry
      ≡ format_at chain i

-- each pixel of an operation's image is in a band of it, and that band's step is done
all_pixels : (chain : ChainValue) (frames : List Frame) (i : ℕ) (o : Op) (d : Frame) → i < length chain.ops
    → AreShaped chain frames → AreDone chain frames (steps_of chain)
    → let image = get_or frames (i + 1) d in
    (p y x : ℕ) → IsPlace image.geometry p y x
    → sample image.geometry (samples_of image) p y x ≡ picture_of chain frames i o d p y x
all_pixels chain frames i o d h shaped done p y x at =
    let image = get_or frames (i + 1) d in
    let b = chain.band_height.rows in
    let counts = counts_of chain in
    let within : i < length counts = rw length-band_counts h in
    let count : band_count image.geometry b ≡ get_or counts i 0 =
    count_of_output chain i image.geometry within (shaped.format (i + 1) d (omega (arith, h))) in
    let band =
    each_row_in_one_band image.geometry b chain.band_height.fewest chain.band_height.even p y at.plane at.row in
    let inside : band.0 < get_or counts i 0 = rw count at band.1 in
    let step : IsStep counts (sum (take i counts) + band.0) i band.0 =
    record { of_chain = within; of_op = inside; number = refl } in
    done (sum (take i counts) + band.0) i band.0 o d
    (step_within counts i band.0 within inside) step p y x at.plane band.2 at.column

one_image : (chain : ChainValue) (frames : List Frame) (i : ℕ) (o : Op) (d : Frame)
    → i < length chain.ops → AreShaped chain frames → AreDone chain frames (steps_of chain)
    → IsImage (get_or chain.ops i o) (value_of (get_or frames i d)) (value_of (get_or frames (i + 1) d))
one_image chain frames i o d h shaped done = record {
  geometry = image_geometry_at chain i o _ _ h (shaped.format i d (omega (arith, h)))
      (shaped.format (i + 1) d (omega (arith, h)));
  whole = let image = get_or frames (i + 1) d in omega (arith, image.fits, image.samples.ok);
  pixels = all_pixels chain frames i o d h shaped done;
}

first_images : (chain : ChainValue) (frames : List Frame) (o : Op) (d : Frame)
    → AreShaped chain frames → AreDone chain frames (steps_of chain) → (n : ℕ) → n ≤ length chain.ops
    → IsImageByAll (take n chain.ops) (value_of (get_or frames 0 d)) (value_of (get_or frames n d))
first_images chain frames o d shaped done zero h = refl
first_images chain frames o d shaped done (suc i) h =
    let so_far = first_images chain frames o d shaped done i (omega arith) in
    let one = one_image chain frames i o d (omega arith) shaped done in
    let more : IsImageByAll (take (i + 1) chain.ops) (value_of (get_or frames 0 d))
    (value_of (get_or frames (i + 1) d)) =
    image_more chain.ops _ _ _ i o (omega arith) so_far one in
    rw add-one at more

shaped : (job : JobValue) (scratch : List Canvas) → IsJob job → IsScratch job.chain scratch
    → AreShaped job.chain (frames_by job.source scratch job.canvas)
shaped job scratch is fits = record {
  format = λ i d h. elim (cases_order i (length scratch + 1)) [
    | inl last ↦ rw last (format_last job.chain job.source scratch job.canvas d fits is.canvas)
    | inr order ↦ elim order [
      | inl below ↦
          format_between job.chain job.source scratch job.canvas i d is.geometry fits (omega (arith, below))
      | inr above ↦ absurd (omega (arith, h, above, fits.count))
    ]
  ];
}

pub image_of_job : (job : JobValue) (scratch : List Canvas) → IsJob job → job.scratch ≡ Some scratch
    → job.done ≡ steps_of job.chain
    → IsChainImage job.chain.ops (value_of job.source) (value_of (frame_of job.canvas))
image_of_job job scratch is e all =
    let chain = job.chain in
    let frames = frames_by job.source scratch job.canvas in
    let fits = is.scratch scratch e in
    let P : List Frame → Type 0 = λ fs. AreDone chain fs job.done in
    let Q : ℕ → Type 0 = λ n. AreDone chain frames n in
    let done = subst Q all (subst P (frames_started job scratch e) is.are_done) in
    let images =
    first_images chain frames HFlip job.source (shaped job scratch is fits) done (length chain.ops)
    (omega arith) in
    let last : get_or frames (length chain.ops) job.source ≡ frame_of job.canvas =
    ap (λ n. get_or frames n job.source) (sym fits.count)
    ∙ frame_last job.source scratch job.canvas job.source in
    let R : List Op → Frame → Type 0 =
    λ ops image. IsImageByAll ops (value_of job.source) (value_of image) in
    record {
      line = is.line;
      by_all = subst (R chain.ops) last
          (subst (λ ops. R ops (get_or frames (length chain.ops) job.source))
          (take_all (length chain.ops) chain.ops (omega arith)) images);
    }
