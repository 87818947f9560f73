-- The samples of rows that are read from a frame.
use Rattle.std.proofs.Common.{ℕ, ◌≡◌, ◌+◌, ◌-◌, ◌*◌, ◌<◌, ◌≤◌, List, length, slice_index, arith, ap, sym, ◌∙◌}
use Rattle.std.proofs.Common.{take, drop}
use Rattle.std.proofs.Math.Nat.{mul-le-mul_right}
use Rattle.std.proofs.lemmas.List.{get_or-take, get_or-drop}
use Rattle.frame_view.specs.declared.geometry.Geometry.{Geometry}
use Rattle.frame_view.specs.Places.{plane_width, row_start}
use Rattle.frame_view.specs.Written.{IsRows}
use Rattle.frame_view.specs.Rows.{sample, row_of, run_of}

-- the samples of rows that are read one after another
pub run-sample : (g : Geometry) (bytes : List ℕ) (p from to v x : ℕ) → from + v < to → x < plane_width g p
    → slice_index (run_of g bytes p from to) (v * plane_width g p + x) ≡ sample g bytes p (from + v) x
run-sample g bytes p from to v x h l =
    let w = plane_width g p in
    let more : (from + v + 1) * w ≤ to * w = mul-le-mul_right {m = from + v + 1} {n = to} w (omega arith) in
    let within : v * w + x < row_start g p to - row_start g p from = omega arith in
    let place : row_start g p from + (v * w + x) ≡ row_start g p (from + v) + x = omega arith in
    get_or-take (row_start g p to - row_start g p from) (drop (row_start g p from) bytes) (v * w + x) 0 within
    ∙ get_or-drop (row_start g p from) bytes (v * w + x) 0
    ∙ ap (slice_index bytes) place

-- the samples of a row
pub row-sample : (g : Geometry) (bytes : List ℕ) (p y x : ℕ) → x < plane_width g p
    → slice_index (row_of g bytes p y) x ≡ sample g bytes p y x
row-sample g bytes p y x l =
    let zero : 0 * plane_width g p + x ≡ x = omega arith in
    let same : y + 0 ≡ y = omega arith in
    ap (slice_index (row_of g bytes p y)) (let s : x ≡ 0 * plane_width g p + x = omega arith in s)
    ∙ run-sample g bytes p y (y + 1) 0 x (omega arith) l
    ∙ ap (λ z. sample g bytes p z x) same

-- the bytes of a part of a row
pub part-sample : (row : List ℕ) (from n x : ℕ) → x < n
    → slice_index (take (from + n - from) (drop from row)) x ≡ slice_index row (from + x)
part-sample row from n x h =
    get_or-take (from + n - from) (drop from row) x 0 (omega arith) ∙ get_or-drop from row x 0

-- rows that hold the samples of a picture are its rows
pub rows_held : (picture : ℕ → ℕ → ℕ → ℕ) (target : Geometry) (p columns from to : ℕ) (rows : List ℕ)
    → columns ≡ plane_width target p → length rows ≡ (to - from) * columns
    → ((v x : ℕ) → from + v < to → x < columns → slice_index rows (v * columns + x) ≡ picture p (from + v) x)
    → IsRows picture target p from to rows
rows_held picture target p columns from to rows e n h = record {
  len = n ∙ ap (λ w. (to - from) * w) e;
  samples = λ y x a b l.
      ap (λ w. slice_index rows ((y - from) * w + x)) (sym e) ∙ h (y - from) x (omega arith) (omega arith)
      ∙ ap (λ z. picture p z x) (let s : from + (y - from) ≡ y = omega arith in s);
}
