-- Planes that were lent at once, put together again.
use Rattle.std.proofs.Common.{ℕ, ◌≡◌, ◌+◌, ◌-◌, ◌*◌, ◌<◌, ◌≤◌, List, ◌++◌, length, slice_index, arith, ap}
use Rattle.std.proofs.Common.{sym, ◌∙◌, ◌⊎◌, inl, inr, refl, subst, nat_lt, if◌then◌else◌}
use Rattle.std.proofs.lemmas.List.{get_or_append_left, get_or-append_right}
use Rattle.std.proofs.lemmas.Bool.Decides.{nat_tests}
use Rattle.y4m_header.specs.Chroma.{plane_count}
use Rattle.frame_view.specs.declared.geometry.Geometry.{Geometry}
use Rattle.frame_view.specs.Places.{plane_width, plane_height, row_start}
use Rattle.frame_view.specs.LentTogether.{lent_len, of_plane}
use Rattle.frame_view.specs.Rows.{IsPlace, sample}
use Rattle.frame_view.proofs.Places.{first_plane, next_plane, next_row, row_in_plane, counts}

pub there : (n p a : ℕ) → p < n → (if nat_lt p n then a else 0) ≡ a
there n p a h = grind (arith, nat_tests)

pub lent_size : (g : Geometry) (p : ℕ) → p < plane_count g.chroma → lent_len g p ≡ plane_width g p * plane_height g p
lent_size g p h = there (plane_count g.chroma) p (plane_width g p * plane_height g p) h

left : (xs ys : List ℕ) (k : ℕ) → k < length xs → slice_index (xs ++ ys) k ≡ slice_index xs k
left xs ys k h = get_or_append_left xs ys 0 k h

right : (xs ys : List ℕ) (n k j : ℕ) → length xs ≡ n → k ≡ n + j → slice_index (xs ++ ys) k ≡ slice_index ys j
right xs ys n k j e f = get_or-append_right xs ys n k 0 e (omega arith) ∙ ap (λ z. slice_index ys z) (let s : k - n ≡ j = omega arith in s)

pub four : (p : ℕ) → p < 4 → (p ≡ 0) ⊎ ((p ≡ 1) ⊎ ((p ≡ 2) ⊎ (p ≡ 3)))
four p h = grind arith

pub at_most_four : (g : Geometry) → plane_count g.chroma ≤ 4
at_most_four g = elim (counts g.chroma) [ inl e ↦ omega arith | inr (inl e) ↦ omega arith | inr (inr e) ↦ omega arith ]

pub place_below : (g : Geometry) (p y x : ℕ) → IsPlace g p y x → y * plane_width g p + x < lent_len g p
place_below g p y x h =
    omega (arith, lent_size g p h.plane, row_in_plane g p (y + 1) (let k = h.row in omega arith), next_row g p y, next_plane g p, h.column)

-- what stands in a lent plane stands in its own rows
abbrev pub StandsInItsRows : Geometry → List ℕ → List ℕ → List ℕ → List ℕ → ℕ → ℕ → ℕ → Type 0
StandsInItsRows g luma cb cr alpha y x p =
    sample g (luma ++ (cb ++ (cr ++ alpha))) p y x ≡ slice_index (of_plane p luma cb cr alpha) (y * plane_width g p + x)

pub lent_planes : (g : Geometry) (luma cb cr alpha : List ℕ) → length luma ≡ lent_len g 0 → length cb ≡ lent_len g 1
    → length cr ≡ lent_len g 2 → length alpha ≡ lent_len g 3
    → (p y x : ℕ) → IsPlace g p y x → StandsInItsRows g luma cb cr alpha y x p
lent_planes g luma cb cr alpha l b r a p y x h =
    let Q : ℕ → Type 0 = StandsInItsRows g luma cb cr alpha y x in
    let In : ℕ → Type 0 = λ z. IsPlace g z y x in
    elim (four p (omega (arith, at_most_four g, h.plane))) [
      | inl e ↦ subst Q (sym e) (in_luma (subst In e h))
      | inr (inl e) ↦ subst Q (sym e) (in_cb (subst In e h))
      | inr (inr (inl e)) ↦ subst Q (sym e) (in_cr (subst In e h))
      | inr (inr (inr e)) ↦ subst Q (sym e) (in_alpha (subst In e h))
    ]
  where
    in_luma : IsPlace g 0 y x → StandsInItsRows g luma cb cr alpha y x 0
    in_luma i =
        ap (λ z. slice_index (luma ++ (cb ++ (cr ++ alpha))) z) (let e : row_start g 0 y + x ≡ y * plane_width g 0 + x =
        omega (arith, first_plane g) in e)
        ∙ left luma (cb ++ (cr ++ alpha)) (y * plane_width g 0 + x) (omega (arith, place_below g 0 y x i, l))

    in_cb : IsPlace g 1 y x → StandsInItsRows g luma cb cr alpha y x 1
    in_cb i =
        right luma (cb ++ (cr ++ alpha)) (lent_len g 0) (row_start g 1 y + x) (y * plane_width g 1 + x) l
        (omega (arith, first_plane g, next_plane g 0, lent_size g 0 (let k = i.plane in omega arith)))
        ∙ left cb (cr ++ alpha) (y * plane_width g 1 + x) (omega (arith, place_below g 1 y x i, b))

    in_cr : IsPlace g 2 y x → StandsInItsRows g luma cb cr alpha y x 2
    in_cr i =
        right luma (cb ++ (cr ++ alpha)) (lent_len g 0) (row_start g 2 y + x) (lent_len g 1 + (y * plane_width g 2 + x)) l
        (omega (
          arith,
          first_plane g,
          next_plane g 0,
          next_plane g 1,
          lent_size g 0 (let k = i.plane in omega arith),
          lent_size g 1 (let k = i.plane in omega arith),
        ))
        ∙ right cb (cr ++ alpha) (lent_len g 1) (lent_len g 1 + (y * plane_width g 2 + x)) (y * plane_width g 2 + x) b refl
        ∙ left cr alpha (y * plane_width g 2 + x) (omega (arith, place_below g 2 y x i, r))

    in_alpha : IsPlace g 3 y x → StandsInItsRows g luma cb cr alpha y x 3
    in_alpha i =
        right luma (cb ++ (cr ++ alpha)) (lent_len g 0) (row_start g 3 y + x) (lent_len g 1 + (lent_len g 2 + (y * plane_width g 3 + x))) l
        (omega (
          arith,
          first_plane g,
          next_plane g 0,
          next_plane g 1,
          next_plane g 2,
          lent_size g 0 (let k = i.plane in omega arith),
          lent_size g 1 (let k = i.plane in omega arith),
          lent_size g 2 (let k = i.plane in omega arith),
        ))
        ∙ right cb (cr ++ alpha) (lent_len g 1) (lent_len g 1 + (lent_len g 2 + (y * plane_width g 3 + x)))
        (lent_len g 2 + (y * plane_width g 3 + x)) b refl
        ∙ right cr alpha (lent_len g 2) (lent_len g 2 + (y * plane_width g 3 + x)) (y * plane_width g 3 + x) r refl
