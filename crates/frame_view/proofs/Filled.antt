-- Planes that were filled with a sample each.
use Rattle.std.proofs.Common.{ℕ, ◌≡◌, ◌+◌, ◌*◌, ◌<◌, List, ◌++◌, length, replicate, slice_index}
use Rattle.std.proofs.Common.{arith, ap, refl, sym, ◌∙◌, inl, inr, subst}
use Rattle.std.proofs.lemmas.Grind.{common_steps}
use Rattle.std.proofs.lemmas.List.{with_items_is}
use Rattle.frame_view.specs.declared.geometry.Geometry.{Geometry}
use Rattle.frame_view.specs.declared.frame.Frame.{Frame}
use Rattle.frame_view.specs.Frame.{samples_of}
use Rattle.frame_view.specs.Lending.{with_all_samples}
use Rattle.frame_view.specs.LentTogether.{lent_len, of_plane}
use Rattle.frame_view.specs.Places.{plane_width}
use Rattle.frame_view.specs.Rows.{IsPlace, sample}
use Rattle.frame_view.proofs.Places.{lent_fill}
use Rattle.frame_view.proofs.LentTogether.{lent_planes, four, at_most_four, place_below}

length-filled : (n v : ℕ) → length (replicate n v) ≡ n
length-filled n v = grind (arith, common_steps)

read-filled : (n v k : ℕ) → k < n → slice_index (replicate n v) k ≡ v
read-filled n v k h = grind (arith, common_steps)

module _ (g : Geometry) (values : List ℕ) where
  -- plane p, filled
  abbrev pub filled_plane : ℕ → List ℕ
  filled_plane p = replicate (lent_len g p) (slice_index values p)

  abbrev pub filled_planes : List ℕ
  filled_planes = filled_plane 0 ++ (filled_plane 1 ++ (filled_plane 2 ++ filled_plane 3))

  abbrev IsOneOfFour : ℕ → Type 0
  IsOneOfFour p = of_plane p (filled_plane 0) (filled_plane 1) (filled_plane 2) (filled_plane 3) ≡ filled_plane p

  one_of_four : (p : ℕ) → p < 4 → IsOneOfFour p
  one_of_four p h = elim (four p h) [
    | inl e ↦ subst IsOneOfFour (sym e) refl
    | inr (inl e) ↦ subst IsOneOfFour (sym e) refl
    | inr (inr (inl e)) ↦ subst IsOneOfFour (sym e) refl
    | inr (inr (inr e)) ↦ subst IsOneOfFour (sym e) refl
  ]

  length-planes : length filled_planes ≡ lent_len g 0 + (lent_len g 1 + (lent_len g 2 + lent_len g 3))
  length-planes = grind (arith, common_steps)

  filled_sample : (p y x : ℕ) → IsPlace g p y x → sample g filled_planes p y x ≡ slice_index values p
  filled_sample p y x h =
      let k = y * plane_width g p + x in
      lent_planes g (filled_plane 0) (filled_plane 1) (filled_plane 2) (filled_plane 3)
      (length-filled _ _) (length-filled _ _) (length-filled _ _) (length-filled _ _) p y x h
      ∙ ap (λ z. slice_index z k) (one_of_four p (omega (arith, at_most_four g, h.plane)))
      ∙ read-filled (lent_len g p) (slice_index values p) k (place_below g p y x h)

-- a frame whose planes come back filled has in each plane the sample of that plane
pub filled : (old : Frame) (values new : List ℕ) → new ≡ filled_planes old.geometry values
    → (p y x : ℕ) → IsPlace old.geometry p y x
    → sample old.geometry (samples_of (with_all_samples old new)) p y x ≡ slice_index values p
filled old values new e p y x h =
    let g = old.geometry in
    let long : length new ≡ old.samples.len = rw e (length-planes g values ∙ lent_fill g ∙ sym old.fits) in
    rw (with_items_is old.samples new long, e) (filled_sample g values p y x h)
