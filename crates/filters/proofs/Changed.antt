-- Planes that a table changed where they stand.
use Rattle.std.proofs.Common.{ℕ, ◌≡◌, ◌+◌, ◌*◌, ◌<◌, List, ◌++◌, length, map, take, drop, slice_index}
use Rattle.std.proofs.Common.{arith, ap, refl, sym, ◌∙◌, inl, inr, subst}
use Rattle.std.proofs.lemmas.List.{with_items_is, take-append-drop, get_or-map, length-take, length-drop}
use Rattle.std.proofs.lemmas.List.{length-append, length-map}
use Rattle.frame_view.specs.declared.geometry.Geometry.{Geometry}
use Rattle.frame_view.specs.declared.frame.Frame.{Frame}
use Rattle.frame_view.specs.Frame.{samples_of}
use Rattle.frame_view.specs.Lending.{with_all_samples}
use Rattle.frame_view.specs.LentTogether.{lent_len, of_plane}
use Rattle.frame_view.specs.Places.{plane_width, frame_len}
use Rattle.frame_view.specs.Rows.{IsPlace, sample}
use Rattle.frame_view.proofs.Places.{lent_fill}
use Rattle.frame_view.proofs.LentTogether.{lent_planes, four, at_most_four, place_below}
use Rattle.filters.specs.declared.op.Op.TheVariants.{Table}
use Rattle.filters.specs.declared.op.Table.{Table as TableOp}
use Rattle.filters.specs.Pixel.{entry, luma_entry, chroma_entry}
use Rattle.filters.specs.ChainImage.{IsImage, value_of}

module _ (table : TableOp) (g : Geometry) (samples : List ℕ) where
  abbrev luma : List ℕ
  luma = take (lent_len g 0) samples

  abbrev behind_luma : List ℕ
  behind_luma = drop (lent_len g 0) samples

  abbrev cb : List ℕ
  cb = take (lent_len g 1) behind_luma

  abbrev behind_cb : List ℕ
  behind_cb = drop (lent_len g 1) behind_luma

  abbrev cr : List ℕ
  cr = take (lent_len g 2) behind_cb

  abbrev alpha : List ℕ
  alpha = drop (lent_len g 2) behind_cb

  -- the samples of all planes, each through the table, and those of alpha
  abbrev pub changed_planes : List ℕ
  changed_planes =
      map (luma_entry table) luma ++ (map (chroma_entry table) cb ++ (map (chroma_entry table) cr ++ alpha))

  module _ (whole : length samples ≡ frame_len g) where
    luma_len : length luma ≡ lent_len g 0
    luma_len = length-take (lent_len g 0) samples ∙ omega (arith, lent_fill g)

    cb_len : length cb ≡ lent_len g 1
    cb_len = omega (arith, lent_fill g, length-take {A = ℕ}, length-drop {A = ℕ})

    cr_len : length cr ≡ lent_len g 2
    cr_len = omega (arith, lent_fill g, length-take {A = ℕ}, length-drop {A = ℕ})

    alpha_len : length alpha ≡ lent_len g 3
    alpha_len = omega (arith, lent_fill g, length-drop {A = ℕ})

    parted : luma ++ (cb ++ (cr ++ alpha)) ≡ samples
    parted =
        ap (λ rest. luma ++ (cb ++ rest)) (take-append-drop (lent_len g 2) behind_cb)
        ∙ ap (λ rest. luma ++ rest) (take-append-drop (lent_len g 1) behind_luma)
        ∙ take-append-drop (lent_len g 0) samples

    -- a sample of one of the four planes
    abbrev ChangedAt : ℕ → ℕ → Type 0
    ChangedAt k p =
        k < lent_len g p
        → slice_index (of_plane p (map (luma_entry table) luma) (map (chroma_entry table) cb)
        (map (chroma_entry table) cr) alpha) k
        ≡ entry table p (slice_index (of_plane p luma cb cr alpha) k)

    changed_at : (k p : ℕ) → p < 4 → ChangedAt k p
    changed_at k p h = elim (four p h) [
      | inl e ↦
          subst (ChangedAt k) (sym e) (λ l. get_or-map (luma_entry table) luma k 0 0 (omega (arith, luma_len)))
      | inr (inl e) ↦
          subst (ChangedAt k) (sym e) (λ l. get_or-map (chroma_entry table) cb k 0 0 (omega (arith, cb_len)))
      | inr (inr (inl e)) ↦
          subst (ChangedAt k) (sym e) (λ l. get_or-map (chroma_entry table) cr k 0 0 (omega (arith, cr_len)))
      | inr (inr (inr e)) ↦ subst (ChangedAt k) (sym e) (λ l. refl)
    ]

    changed_sample : (p y x : ℕ) → IsPlace g p y x
        → sample g changed_planes p y x ≡ entry table p (sample g samples p y x)
    changed_sample p y x h =
        let k = y * plane_width g p + x in
        lent_planes g _ _ _ _ (length-map luma _ ∙ luma_len) (length-map cb _ ∙ cb_len)
        (length-map cr _ ∙ cr_len) alpha_len p y x h
        ∙ changed_at k p (omega (arith, at_most_four g, h.plane)) (place_below g p y x h)
        ∙ ap (entry table p)
        (sym (lent_planes g luma cb cr alpha luma_len cb_len cr_len alpha_len p y x h)
        ∙ ap (λ s. sample g s p y x) parted)

    changed_len : length changed_planes ≡ length samples
    changed_len =
        let n = ap length parted in
        simp (length-append, length-map) (omega (arith, simp length-append at n))

-- a frame whose planes come back changed by a table is its own image
pub changed : (table : TableOp) (old : Frame) (new : List ℕ)
    → new ≡ changed_planes table old.geometry (samples_of old)
    → IsImage (Table table) (value_of old) (value_of (with_all_samples old new))
changed table old new e =
    let g = old.geometry in
    let samples = samples_of old in
    let whole : length samples ≡ frame_len g = omega (arith, old.fits, old.samples.ok) in
    let long : length new ≡ old.samples.len =
    omega (arith, ap length e, changed_len table g samples whole, old.samples.ok) in
    let is = with_items_is old.samples new long in
    record {
      geometry = record { format = refl };
      whole = rw is (omega (arith, long, old.fits));
      pixels = λ p y x h. rw (is, e) (changed_sample table g samples whole p y x h);
    }
