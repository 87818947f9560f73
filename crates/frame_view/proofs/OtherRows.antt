-- The rows that lent rows leave as they were.
use Rattle.std.proofs.Common.{ℕ, ◌≡◌, ◌≢◌, ◌+◌, ◌-◌, ◌<◌, ◌≤◌, ◌⊎◌, inl, inr, List, length, slice_index, slice_range}
use Rattle.std.proofs.Common.{arith, sym, ◌∙◌}
use Rattle.std.proofs.lemmas.Grind.{common_steps, same_number_lists}
use Rattle.frame_view.specs.declared.geometry.Geometry.{Geometry}
use Rattle.frame_view.specs.declared.frame.Frame.{Frame}
use Rattle.frame_view.specs.Lending.{LentRowsLeaveTheOthers}
use Rattle.frame_view.specs.Places.{plane_width, plane_height, row_start}
use Rattle.frame_view.proofs.Gaps.{gap}
use Rattle.frame_view.proofs.Over.{over, over_is, over-length, over-before, over-after}
use Rattle.frame_view.proofs.Written.{length-part, read-part}
use Rattle.frame_view.proofs.Places.{planes_ordered, row_in_plane, row_in_frame, rows_ordered}

part_inside : (xs ws : List ℕ) (at end : ℕ) → at + length ws ≡ end → end ≤ length xs → slice_range (over xs at ws) at end ≡ ws
part_inside xs ws at end e h = grind (arith, common_steps)

same_part : (xs ys : List ℕ) (a b : ℕ) → length ys ≡ length xs → b ≤ length xs
    → ((k : ℕ) → a ≤ k → k < b → slice_index ys k ≡ slice_index xs k) → slice_range ys a b ≡ slice_range xs a b
same_part xs ys a b e h same =
    let h' : b ≤ length ys = omega (arith, e) in
    let long : length (slice_range ys a b) ≡ b - a = length-part ys a b h' in
    same_number_lists (slice_range ys a b) (slice_range xs a b) (long ∙ sym (length-part xs a b h)) (λ k l.
    let l' : k < b - a = omega (arith, long) in
    read-part ys a b k h' l' ∙ same (a + k) (omega arith) (omega arith) ∙ sym (read-part xs a b k h l'))

three : (q p : ℕ) → (q < p) ⊎ ((q ≡ p) ⊎ (p < q))
three q p = grind arith

-- another row ends before these rows, or begins after them
other_row : (g : Geometry) (p q from to z : ℕ) → to ≤ plane_height g p → z < plane_height g q → (q ≢ p) ⊎ ((z < from) ⊎ (to ≤ z))
    → (row_start g q (z + 1) ≤ row_start g p from) ⊎ (row_start g p to ≤ row_start g q z)
other_row g p q from to z ht hz o = elim (three q p) [
  | inl l ↦ inl (omega (arith, row_in_plane g q (z + 1) (omega arith), planes_ordered g (q + 1) p (omega arith)))
  | inr (inl e) ↦ elim o [
    | inl n ↦ absurd (n e)
    | inr (inl l) ↦ inl (rw e (rows_ordered g p (z + 1) from (omega arith)))
    | inr (inr l) ↦ inr (rw e (rows_ordered g p to z l))
  ]
  | inr (inr l) ↦ inr (omega (arith, row_in_plane g p to ht, planes_ordered g (p + 1) q (omega arith)))
]

pub lent_rows_leave_the_others : (f : Frame) → LentRowsLeaveTheOthers f
lent_rows_leave_the_others f = λ p from to ws hp hf ht hl.
    let g = f.geometry in
    let at = row_start g p from in
    let xs = f.samples.items in
    let end : at + length ws ≡ row_start g p to = omega (arith, gap from to (plane_width g p) hf, hl) in
    let room : at + length ws ≤ f.samples.len = omega (arith, end, row_in_frame g p to hp ht, f.fits) in
    let room' : at + length ws ≤ length xs = omega (arith, room, f.samples.ok.0) in
    let e = over_is f.samples at ws room in
    record {
      rows = rw e (part_inside xs ws at (row_start g p to) end (omega (arith, end, room')));
      others = λ q z hq hz o.
          let last : row_start g q (z + 1) ≤ length xs = omega (arith, row_in_frame g q (z + 1) hq (omega arith), f.fits, f.samples.ok.0) in
          rw e (same_part xs (over xs at ws) (row_start g q z) (row_start g q (z + 1)) (over-length xs at ws room') last (λ k a b.
          elim (other_row g p q from to z ht hz o) [
            | inl l ↦ over-before xs at ws k room' (omega arith)
            | inr l ↦ over-after xs at ws k room' (omega arith)
          ]));
    }
