-- Rows that were written, and what a frame then has.
use Rattle.std.proofs.Common.{ℕ, ◌≡◌, ◌+◌, ◌*◌, ◌-◌, ◌<◌, ◌≤◌, List, ◌++◌, length, arith, slice_index}
use Rattle.std.proofs.Common.{slice_range, ap, ◌∙◌, ◌⊎◌, inl, inr, refl, length-append}
use Rattle.std.proofs.lemmas.List.{get_or_append_left, get_or-append_right}
use Rattle.y4m_header.specs.Chroma.{plane_count}
use Rattle.frame_view.specs.declared.geometry.Geometry.{Geometry}
use Rattle.frame_view.specs.declared.frame.Frame.{Frame}
use Rattle.frame_view.specs.Places.{plane_width, plane_height, row_start}
use Rattle.frame_view.specs.Written.{IsRows, HasRows}
use Rattle.frame_view.specs.Lending.{with_samples, with_rows}
use Rattle.frame_view.proofs.Places.{row_in_frame}
use Rattle.frame_view.proofs.Gaps.{gap, row_gap, row_below}
use Rattle.frame_view.specs.Rows.{sample, run_of}
use Rattle.std.proofs.lemmas.Grind.{common_steps}
use Rattle.frame_view.proofs.Over.{over_is, over-before, over-inside, over-after}

-- lent rows that come back as a picture's are the picture's rows in the frame
pub lent_rows : (picture : ℕ → ℕ → ℕ → ℕ) (p from to : ℕ) (old : Frame) (ws : List ℕ)
    → p < plane_count old.geometry.chroma → from ≤ to → to ≤ plane_height old.geometry p
    → IsRows picture old.geometry p from to ws → HasRows picture p from to old (with_samples old (row_start old.geometry p from) ws)
lent_rows picture p from to old ws hp hf ht h =
    let g = old.geometry in
    let w = plane_width g p in
    let at = row_start g p from in
    let end : row_start g p to ≡ at + length ws = omega (arith, gap from to w hf, h.len) in
    let room : at + length ws ≤ old.samples.len = omega (arith, row_in_frame g p to hp ht, old.fits) in
    let room' : at + length ws ≤ length old.samples.items = omega (arith, old.samples.ok.0) in
    let e = over_is old.samples at ws room in
    record {
      geometry = refl;
      line = refl;
      rows = λ y x a b d.
          let k = (y - from) * w + x in
          let i : row_start g p y + x ≡ at + k = omega (arith, gap from y w a) in
          let l : k < length ws = omega (arith, row_below (y - from) (to - from) x w (omega arith) d, h.len) in
          rw (e, i) (over-inside old.samples.items at ws k room' l ∙ h.samples y x a b d);
      before = λ i l. rw e (over-before old.samples.items at ws i room' l);
      after = λ i l. rw e (over-after old.samples.items at ws i room' (omega arith));
    }

-- a row that comes back in its place is the row of the frame
pub put_back : (p y : ℕ) (old : Frame) (row new : List ℕ) → p < plane_count old.geometry.chroma → y < plane_height old.geometry p
    → length row ≡ plane_width old.geometry p → new ≡ row → HasRows (λ _ _ x. slice_index row x) p y (y + 1) old (with_rows old p y new)
put_back p y old row new hp hy r e =
    rw e (lent_rows (λ _ _ x. slice_index row x) p y (y + 1) old row hp (omega arith) (omega arith) (record {
      len = grind arith;
      samples = λ z x a b l. ap (slice_index row) (let d : z - y ≡ 0 = omega arith in rw d (omega arith));
    }))

either_side : (y f : ℕ) → (y < f) ⊎ (f ≤ y)
either_side y f = grind arith

-- two runs of rows that meet
pub rows_joined : (picture : ℕ → ℕ → ℕ → ℕ) (g : Geometry) (p from mid to : ℕ) (xs ys : List ℕ) → from ≤ mid → mid ≤ to
    → IsRows picture g p from mid xs → IsRows picture g p mid to ys → IsRows picture g p from to (xs ++ ys)
rows_joined picture g p from mid to xs ys h k a b =
    let w = plane_width g p in
    let n : length xs ≡ (mid - from) * w = a.len in
    record {
      len = simp length-append
          (omega (
            arith,
            gap (mid - from) (to - from) w (omega arith),
            a.len,
            b.len,
            ap (λ z. z * w) (let e : (to - from) - (mid - from) ≡ to - mid = omega arith in e),
          ));
      samples = λ y x c d l. elim (either_side y mid) [
        | inl q ↦ get_or_append_left xs ys 0 ((y - from) * w + x)
            (omega (arith, row_below (y - from) (mid - from) x w (omega arith) l)) ∙ a.samples y x c q l
        | inr q ↦ (let s : (y - from) * w + x - (mid - from) * w ≡ (y - mid) * w + x =
            omega (
              arith,
              gap (mid - from) (y - from) w (omega arith),
              ap (λ z. z * w) (let e : (y - from) - (mid - from) ≡ y - mid = omega arith in e),
            ) in
            get_or-append_right xs ys ((mid - from) * w) ((y - from) * w + x) 0 n
            (omega (arith, gap (mid - from) (y - from) w (omega arith))) ∙ ap (λ z. slice_index ys z) s ∙ b.samples y x q d l)
      ];
    }

-- the rows that are left after a cut
pub rest_rows : (from mid to w n m : ℕ) → from ≤ mid → mid ≤ to → n + (mid - from) * w ≡ m → m ≡ (to - from) * w → n ≡ (to - mid) * w
rest_rows from mid to w n m h k e f =
    omega (
      arith,
      gap (mid - from) (to - from) w (omega arith),
      ap (λ z. z * w) (let e : (to - from) - (mid - from) ≡ to - mid = omega arith in e),
    )

pub length-part : (xs : List ℕ) (a b : ℕ) → b ≤ length xs → length (slice_range xs a b) ≡ b - a
length-part xs a b h = grind (arith, common_steps)

pub read-part : (xs : List ℕ) (a b k : ℕ) → b ≤ length xs → k < b - a → slice_index (slice_range xs a b) k ≡ slice_index xs (a + k)
read-part xs a b k h l = grind (arith, common_steps)

-- rows of a frame are those of the picture that it shows
pub shown_rows : (g : Geometry) (bytes : List ℕ) (p from to : ℕ) → from ≤ to → row_start g p to ≤ length bytes
    → IsRows (sample g bytes) g p from to (run_of g bytes p from to)
shown_rows g bytes p from to h room =
    let w = plane_width g p in
    let at = row_start g p from in
    let end = row_gap g p from to h in
    record {
      len = length-part bytes at (row_start g p to) room ∙ end;
      samples = λ y x a b l.
          let k = (y - from) * w + x in
          let i : row_start g p y + x ≡ at + k = omega (arith, gap from y w a) in
          rw i (read-part bytes at (row_start g p to) k room (omega (arith, row_below (y - from) (to - from) x w (omega arith) l, end)));
    }
