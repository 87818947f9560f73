-- The planes of a frame in which the rows of a part were written.
use Rattle.std.proofs.Common.{ℕ, ◌≡◌, ◌+◌, ◌-◌, ◌*◌, ◌<◌, ◌≤◌, ◌⊎◌, inl, inr, List, ◌++◌, length, take, drop}
use Rattle.std.proofs.Common.{slice_index, slice_range, arith, ap, sym, ◌∙◌, refl, subst}
use Rattle.std.proofs.Math.Seq.{drop-append-add}
use Rattle.std.proofs.lemmas.Grind.{common_steps}
use Rattle.std.proofs.lemmas.List.{with_items_is}
use Rattle.std.proofs.lemmas.Slice.{between_from_start, between_to_end}
use borrow.Rule.Slice.PartMut.{put_mid}
use Rattle.y4m_header.specs.Chroma.{plane_count}
use Rattle.frame_view.specs.declared.frame.Frame.{Frame}
use Rattle.frame_view.specs.declared.geometry.Geometry.{Geometry}
use Rattle.frame_view.specs.Frame.{samples_of}
use Rattle.frame_view.specs.Lending.{with_all_samples}
use Rattle.frame_view.specs.LentTogether.{lent_columns, lent_len, of_plane}
use Rattle.frame_view.specs.Places.{plane_width, plane_height, row_start, frame_len}
use Rattle.frame_view.specs.Rows.{IsPlace, run_of, sample}
use Rattle.frame_view.proofs.LentTogether.{there, lent_size, lent_planes}
use Rattle.frame_view.proofs.Over.{over, over-length, over-before, over-after}
use Rattle.frame_view.proofs.Places.{first_plane, next_plane, next_row, row_in_plane, rows_ordered, row_in_frame, counts}
use Rattle.frame_view.specs.Written.{IsRows}
use Rattle.frame_view.proofs.Written.{shown_rows}
use Rattle.row_bands.specs.Written.{HasBand}
use Rattle.row_bands.specs.Bands.{rows_above}
use Rattle.row_bands.specs.Halves.{HasPart}
use Rattle.row_bands.specs.HalvesInside.{GivesRows, HasParts, part_len}
use Rattle.row_bands.proofs.Bands.{inside}
use Rattle.row_bands.proofs.PartRows.{part_inside, part_end, parts_meet, each_plane}

run_left : (xs ys : List ℕ) (a b i j : ℕ) → i ≡ a → j ≡ b → b ≤ length xs → slice_range (xs ++ ys) i j ≡ slice_range xs a b
run_left xs ys a b i j e f h = grind (arith, common_steps)

run_right : (xs ys : List ℕ) (n a b i j : ℕ) → length xs ≡ n → i ≡ n + a → j ≡ n + b → slice_range (xs ++ ys) i j ≡ slice_range ys a b
run_right xs ys n a b i j l e f =
    let at : i ≡ length xs + a = omega arith in
    let len : j - i ≡ b - a = omega arith in
    ap (λ z. take z (drop i (xs ++ ys))) len ∙ ap (λ z. take (b - a) (drop z (xs ++ ys))) at ∙ ap (take (b - a)) (drop-append-add xs ys a)

length-upper : (xs : List ℕ) (n : ℕ) → n ≤ length xs → length (take n xs) ≡ n
length-upper xs n h = grind (arith, common_steps)

-- the first n of what was written in the midst of a list
mid_upper : (xs ws : List ℕ) (s k n i j : ℕ) → s ≤ length xs → n ≤ length ws → i ≡ s → j ≡ s + n
    → slice_range (put_mid s k xs ws) i j ≡ take n ws
mid_upper xs ws s k n i j hs hn e f =
    run_right (take s xs) (ws ++ drop k (drop s xs)) s 0 n i j (length-upper xs s hs) (omega arith) f
    ∙ run_left ws (drop k (drop s xs)) 0 n 0 n refl refl hn ∙ between_from_start ws n

-- and the rest of it
mid_lower : (xs ws : List ℕ) (s k n i j : ℕ) → s ≤ length xs → i ≡ s + n → j ≡ s + length ws
    → slice_range (put_mid s k xs ws) i j ≡ drop n ws
mid_lower xs ws s k n i j hs e f =
    run_right (take s xs) (ws ++ drop k (drop s xs)) s n (length ws) i j (length-upper xs s hs) e f
    ∙ run_left ws (drop k (drop s xs)) n (length ws) n (length ws) refl refl (omega arith) ∙ between_to_end ws n (length ws) (omega arith)

mid_is : (xs ws : List ℕ) (s k : ℕ) → length ws ≡ k → put_mid s k xs ws ≡ over xs s ws
mid_is xs ws s k e = ap (λ z. put_mid s z xs ws) (sym e)

mid_outside : (xs ws : List ℕ) (s k i : ℕ) → s + k ≤ length xs → length ws ≡ k → (i < s) ⊎ (s + k ≤ i)
    → slice_index (put_mid s k xs ws) i ≡ slice_index xs i
mid_outside xs ws s k i h e (inl l) = rw (mid_is xs ws s k e) (over-before xs s ws i (omega arith) l)
mid_outside xs ws s k i h e (inr r) = rw (mid_is xs ws s k e) (over-after xs s ws i (omega arith) (omega arith))

-- a plane with the rows that go with the luma rows from one on to another replaced
abbrev pub filled : Geometry → ℕ → ℕ → ℕ → List ℕ → List ℕ → List ℕ
filled g from to p xs ws =
    put_mid (rows_above g p from * lent_columns g p) (rows_above g p to * lent_columns g p - rows_above g p from * lent_columns g p) xs ws

length-filled : (g : Geometry) (from to p : ℕ) (xs ws : List ℕ) → from ≤ to → to ≤ g.height → length xs ≡ lent_len g p
    → length ws ≡ part_len g p from to
    → length (filled g from to p xs ws) ≡ lent_len g p
length-filled g from to p xs ws h k lx lw =
    let e = part_end g p from to h in
    let room = part_inside g p to k in
    ap length (mid_is xs ws (rows_above g p from * lent_columns g p)
    (rows_above g p to * lent_columns g p - rows_above g p from * lent_columns g p) (omega arith))
    ∙ over-length xs (rows_above g p from * lent_columns g p) ws (omega arith) ∙ lx

-- rows of a frame of four planes are those of their plane
plane_run : (g : Geometry) (luma cb cr alpha : List ℕ) → length luma ≡ lent_len g 0 → length cb ≡ lent_len g 1
    → length cr ≡ lent_len g 2 → length alpha ≡ lent_len g 3
    → (p y z : ℕ) → p < plane_count g.chroma → z ≤ plane_height g p
    → run_of g (luma ++ (cb ++ (cr ++ alpha))) p y z ≡ slice_range (of_plane p luma cb cr alpha) (y * plane_width g p) (z * plane_width g p)
plane_run g luma cb cr alpha l b r a p y z hp hz =
    each_plane (plane_count g.chroma) (counts g.chroma)
    (λ q xs. (z ≤ plane_height g q)
    → run_of g (luma ++ (cb ++ (cr ++ alpha))) q y z ≡ slice_range xs (y * plane_width g q) (z * plane_width g q))
    luma cb cr alpha in_luma in_cb in_cr in_alpha p hp hz
  where
    ends : (q : ℕ) → q < plane_count g.chroma → z ≤ plane_height g q → z * plane_width g q ≤ lent_len g q
    ends q hq k = omega (arith, lent_size g q hq, next_plane g q, row_in_plane g q z k)

    in_luma : 0 < plane_count g.chroma → z ≤ plane_height g 0
        → run_of g (luma ++ (cb ++ (cr ++ alpha))) 0 y z ≡ slice_range luma (y * plane_width g 0) (z * plane_width g 0)
    in_luma h k =
        run_left luma (cb ++ (cr ++ alpha)) (y * plane_width g 0) (z * plane_width g 0) (row_start g 0 y) (row_start g 0 z)
        (omega (arith, first_plane g)) (omega (arith, first_plane g)) (omega (arith, ends 0 h k))

    in_cb : 1 < plane_count g.chroma → z ≤ plane_height g 1
        → run_of g (luma ++ (cb ++ (cr ++ alpha))) 1 y z ≡ slice_range cb (y * plane_width g 1) (z * plane_width g 1)
    in_cb h k =
        let s0 = lent_size g 0 (omega arith) in
        run_right luma (cb ++ (cr ++ alpha)) (lent_len g 0) (y * plane_width g 1) (z * plane_width g 1)
        (row_start g 1 y) (row_start g 1 z) l
        (omega (arith, first_plane g, next_plane g 0, s0)) (omega (arith, first_plane g, next_plane g 0, s0))
        ∙ run_left cb (cr ++ alpha) (y * plane_width g 1) (z * plane_width g 1) _ _ refl refl (omega (arith, ends 1 h k))

    in_cr : 2 < plane_count g.chroma → z ≤ plane_height g 2
        → run_of g (luma ++ (cb ++ (cr ++ alpha))) 2 y z ≡ slice_range cr (y * plane_width g 2) (z * plane_width g 2)
    in_cr h k =
        let s0 = lent_size g 0 (omega arith) in
        let s1 = lent_size g 1 (omega arith) in
        run_right luma (cb ++ (cr ++ alpha)) (lent_len g 0) (lent_len g 1 + y * plane_width g 2)
        (lent_len g 1 + z * plane_width g 2) (row_start g 2 y) (row_start g 2 z) l
        (omega (arith, first_plane g, next_plane g 0, next_plane g 1, s0, s1))
        (omega (arith, first_plane g, next_plane g 0, next_plane g 1, s0, s1))
        ∙ run_right cb (cr ++ alpha) (lent_len g 1) (y * plane_width g 2) (z * plane_width g 2) _ _ b refl refl
        ∙ run_left cr alpha (y * plane_width g 2) (z * plane_width g 2) _ _ refl refl (omega (arith, ends 2 h k))

    in_alpha : 3 < plane_count g.chroma → z ≤ plane_height g 3
        → run_of g (luma ++ (cb ++ (cr ++ alpha))) 3 y z ≡ slice_range alpha (y * plane_width g 3) (z * plane_width g 3)
    in_alpha h k =
        let s0 = lent_size g 0 (omega arith) in
        let s1 = lent_size g 1 (omega arith) in
        let s2 = lent_size g 2 (omega arith) in
        run_right luma (cb ++ (cr ++ alpha)) (lent_len g 0) (lent_len g 1 + (lent_len g 2 + y * plane_width g 3))
        (lent_len g 1 + (lent_len g 2 + z * plane_width g 3)) (row_start g 3 y) (row_start g 3 z) l
        (omega (arith, first_plane g, next_plane g 0, next_plane g 1, next_plane g 2, s0, s1, s2))
        (omega (arith, first_plane g, next_plane g 0, next_plane g 1, next_plane g 2, s0, s1, s2))
        ∙ run_right cb (cr ++ alpha) (lent_len g 1) (lent_len g 2 + y * plane_width g 3)
        (lent_len g 2 + z * plane_width g 3) _ _ b refl refl
        ∙ run_right cr alpha (lent_len g 2) (y * plane_width g 3) (z * plane_width g 3) _ _ r refl refl

-- where the frame has the plane, the rows that go with a luma row begin at that many samples
same_columns : (g : Geometry) (p n : ℕ) → p < plane_count g.chroma → n * plane_width g p ≡ n * lent_columns g p
same_columns g p n h = ap (λ z. n * z) (sym (there (plane_count g.chroma) p (plane_width g p) h))

-- the planes were replaced, so the frame has the two parts
pub has_parts : (gives : ℕ → ℕ → ℕ → List ℕ → Type 0) (from row to : ℕ) (g : Geometry) (old new luma cb cr alpha l b r a : List ℕ)
    → from ≤ row → row ≤ to → to ≤ g.height → old ≡ luma ++ (cb ++ (cr ++ alpha))
    → length luma ≡ lent_len g 0 → length cb ≡ lent_len g 1 → length cr ≡ lent_len g 2 → length alpha ≡ lent_len g 3
    → new ≡ filled g from to 0 luma l ++ (filled g from to 1 cb b ++ (filled g from to 2 cr r ++ filled g from to 3 alpha a))
    → length l ≡ part_len g 0 from to → length b ≡ part_len g 1 from to → length r ≡ part_len g 2 from to → length a ≡ part_len g 3 from to
    → HasPart gives from row g (λ p. take (part_len g p from row) (of_plane p l b r a))
    → HasPart gives row to g (λ p. drop (part_len g p from row) (of_plane p l b r a)) → HasParts gives from row to g old new
has_parts gives from row to g old new luma cb cr alpha l b r a h k top_in eo el eb er ea en fl fb fr fa t d =
    let F = filled g from to in
    let whole : from ≤ to = omega arith in
    let N0 = F 0 luma l in
    let N1 = F 1 cb b in
    let N2 = F 2 cr r in
    let N3 = F 3 alpha a in
    let n0 = length-filled g from to 0 luma l whole top_in el fl in
    let n1 = length-filled g from to 1 cb b whole top_in eb fb in
    let n2 = length-filled g from to 2 cr r whole top_in er fr in
    let n3 = length-filled g from to 3 alpha a whole top_in ea fa in
    let lens : (p : ℕ) → p < plane_count g.chroma → length (of_plane p luma cb cr alpha) ≡ lent_len g p =
    each_plane (plane_count g.chroma) (counts g.chroma) (λ p xs. length xs ≡ lent_len g p) luma cb cr alpha (λ z. el)
    (λ z. eb) (λ z. er) (λ z. ea) in
    let parts : (p : ℕ) → p < plane_count g.chroma → length (of_plane p l b r a) ≡ part_len g p from to =
    each_plane (plane_count g.chroma) (counts g.chroma) (λ p xs. length xs ≡ part_len g p from to) l b r a (λ z. fl)
    (λ z. fb) (λ z. fr) (λ z. fa) in
    let is : (p : ℕ) → p < plane_count g.chroma → of_plane p N0 N1 N2 N3 ≡ F p (of_plane p luma cb cr alpha) (of_plane p l b r a) =
    each_plane (plane_count g.chroma) (counts g.chroma) (λ p xs. xs
    ≡ F p (of_plane p luma cb cr alpha) (of_plane p l b r a)) N0 N1 N2 N3 (λ z. refl) (λ z. refl) (λ z. refl) (λ z. refl) in
    let run : (p y z : ℕ) → (hp : p < plane_count g.chroma) → z ≤ plane_height g p
    → run_of g new p y z
    ≡ slice_range (F p (of_plane p luma cb cr alpha) (of_plane p l b r a)) (y * plane_width g p) (z * plane_width g p) =
    λ p y z hp hz. ap (λ s. run_of g s p y z) en ∙ plane_run g N0 N1 N2 N3 n0 n1 n2 n3 p y z hp hz
    ∙ ap (λ s. slice_range s (y * plane_width g p) (z * plane_width g p)) (is p hp) in
    record {
      top = λ p hp. subst (gives p (rows_above g p from) (rows_above g p row))
          (sym (run p (rows_above g p from) (rows_above g p row) hp (inside g p row (omega arith))
          ∙ mid_upper (of_plane p luma cb cr alpha) (of_plane p l b r a) (rows_above g p from * lent_columns g p) _
          (part_len g p from row) _ _
          (omega (arith, lens p hp, part_inside g p from (omega arith))) (omega (arith, parts p hp, parts_meet g p from row to h k))
          (same_columns g p (rows_above g p from) hp) (same_columns g p (rows_above g p row) hp ∙ part_end g p from row h)))
          (t p hp);
      bottom = λ p hp. subst (gives p (rows_above g p row) (rows_above g p to))
          (sym (run p (rows_above g p row) (rows_above g p to) hp (inside g p to top_in)
          ∙ mid_lower (of_plane p luma cb cr alpha) (of_plane p l b r a) (rows_above g p from * lent_columns g p) _
          (part_len g p from row) _ _
          (omega (arith, lens p hp, part_inside g p from (omega arith)))
          (same_columns g p (rows_above g p row) hp ∙ part_end g p from row h)
          (same_columns g p (rows_above g p to) hp ∙ part_end g p from to whole
          ∙ ap (λ z. rows_above g p from * lent_columns g p + z) (sym (parts p hp)))))
          (d p hp);
      others = λ p y x hp hy hx c.
          let place : IsPlace g p y x = record { plane = hp; row = hy; column = hx } in
          let w = plane_width g p in
          ap (λ s. sample g s p y x) en ∙ lent_planes g N0 N1 N2 N3 n0 n1 n2 n3 p y x place ∙ ap (λ s. slice_index s (y * w + x)) (is p hp)
          ∙ mid_outside (of_plane p luma cb cr alpha) (of_plane p l b r a) _ _ (y * w + x)
          (omega (arith, lens p hp, part_inside g p to top_in, part_end g p from to whole))
          (omega (arith, parts p hp, part_end g p from to whole))
          (outside g p from to y x whole hp hx c)
          ∙ sym (ap (λ s. sample g s p y x) eo ∙ lent_planes g luma cb cr alpha el eb er ea p y x place);
    }
  where
    outside : (g : Geometry) (p from to y x : ℕ) → from ≤ to → p < plane_count g.chroma → x < plane_width g p
        → (y < rows_above g p from) ⊎ (rows_above g p to ≤ y)
        → (y * plane_width g p + x < rows_above g p from * lent_columns g p)
        ⊎ (rows_above g p from * lent_columns g p
        + (rows_above g p to * lent_columns g p - rows_above g p from * lent_columns g p) ≤ y * plane_width g p + x)
    outside g p from to y x w hp hx (inl l) =
        inl (omega (
          arith,
          same_columns g p (rows_above g p from) hp,
          next_row g p y,
          rows_ordered g p (y + 1) (rows_above g p from) (omega arith),
        ))
    outside g p from to y x w hp hx (inr l) =
        inr (omega (arith, same_columns g p (rows_above g p to) hp, part_end g p from to w, rows_ordered g p (rows_above g p to) y l))

-- a sample of rows that are the picture's
shown : (picture : ℕ → ℕ → ℕ → ℕ) (g : Geometry) (p a b y x : ℕ) (samples : List ℕ) → row_start g p b ≤ length samples
    → a ≤ y → y < b → x < plane_width g p
    → IsRows picture g p a b (run_of g samples p a b) → sample g samples p y x ≡ picture p y x
shown picture g p a b y x samples room hy hb hx r =
    sym ((shown_rows g samples p a b (omega arith) room).samples y x hy hb hx) ∙ r.samples y x hy hb hx

either_side : (y f : ℕ) → (y < f) ⊎ (f ≤ y)
either_side y f = grind arith

-- both parts are the picture's, so the band is
pub both_parts : (picture : ℕ → ℕ → ℕ → ℕ) (gives : ℕ → ℕ → ℕ → List ℕ → Type 0) (from row to : ℕ) (old : Frame) (samples : List ℕ)
    → from ≤ row → row ≤ to → to ≤ old.geometry.height → length samples ≡ frame_len old.geometry
    → HasParts (GivesRows picture gives old.geometry) from row to old.geometry (samples_of old) samples
    → HasBand picture from to old (with_all_samples old samples)
both_parts picture gives from row to old samples h k top_in len parts =
    let g = old.geometry in
    let is : samples_of (with_all_samples old samples) ≡ samples = with_items_is old.samples samples (len ∙ sym old.fits) in
    record {
      geometry = refl;
      line = refl;
      rows = λ p y x hp hy hz hx. ap (λ s. sample g s p y x) is ∙ elim (either_side y (rows_above g p row)) [
        | inl l ↦ shown picture g p (rows_above g p from) (rows_above g p row) y x samples
            (omega (arith, row_in_frame g p (rows_above g p row) hp (inside g p row (omega arith)), len)) hy l hx (parts.top p hp).0
        | inr r ↦ shown picture g p (rows_above g p row) (rows_above g p to) y x samples
            (omega (arith, row_in_frame g p (rows_above g p to) hp (inside g p to top_in), len)) r hz hx (parts.bottom p hp).0
      ];
      others = λ p y x hp hy hx c. ap (λ s. sample g s p y x) is ∙ parts.others p y x hp hy hx c;
    }
