-- The tables in front of a chain, and what is held behind them.
use Rattle.std.proofs.Common.{◌≡◌, ℕ, ◌+◌, ◌-◌, ◌<◌, ◌≤◌, true, false, List, [], ◌∷◌, length, take, get_or}
use Rattle.std.proofs.Common.{All, IfSome, arith, refl, ap, ◌∙◌, sym, inl, inr}
use Rattle.std.specs.List.{prefix_len}
use Rattle.std.proofs.Math.Numerals.{one-add}
use Rattle.std.proofs.lemmas.Bool.{cases_order, false≢true}
use Rattle.std.proofs.lemmas.List.{take_all}
use Rattle.std.proofs.lemmas.List.Sums.{prefix_len_passes, prefix_len_stops}
use Rattle.std.proofs.lemmas.Option.{slice_get-get_or}
use Rattle.frame_view.specs.declared.frame.Frame.{Frame}
use Rattle.frame_view.specs.Frame.{line_of}
use Rattle.row_bands.specs.declared.canvas.Canvas.{Canvas}
use Rattle.row_bands.specs.Canvas.{frame_of}
use Rattle.filters.specs.declared.op.Op.{Op}
use Rattle.filters.specs.declared.op.Op.TheVariants.{Table, HFlip, VFlip, Crop, Blur}
use Rattle.filters.specs.declared.op.Table.{Table as TableOp}
use Rattle.filters.specs.Chain.{ChainValue, Format, last_format}
use Rattle.filters.specs.Ops.{is_table}
use Rattle.filters.specs.Front.{KeepLines, front_of, image_in, last_canvas}

-- tables leave the format
pub front_format : (ops : List Op) (format : Format)
    → last_format (take (prefix_len is_table ops) ops) format ≡ format
front_format [] format = refl
front_format (Table table ∷ ops) format = rw (one-add (prefix_len is_table ops)) (front_format ops format)
front_format (HFlip ∷ ops) format = refl
front_format (VFlip ∷ ops) format = refl
front_format (Crop crop ∷ ops) format = refl
front_format (Blur blur ∷ ops) format = refl

pub tables_format : (chain : ChainValue) (format : Format) → front_of chain ≡ length chain.ops
    → last_format chain.ops format ≡ format
tables_format chain format all =
    ap (λ ops. last_format ops format) (sym (take_all (front_of chain) chain.ops (omega (arith, all))))
    ∙ front_format chain.ops format

pub no_table : (op : Op) → ((table : TableOp) → op ≡ Table table → ⊥) → is_table op ≡ false
no_table (Table table) h = absurd (h table refl)
no_table HFlip h = refl
no_table VFlip h = refl
no_table (Crop crop) h = refl
no_table (Blur blur) h = refl

-- one table more stands in front
pub table_more : (ops : List Op) (i : ℕ) (d : Op) → i ≤ prefix_len is_table ops → i < length ops
    → is_table (get_or ops i d) ≡ true → i + 1 ≤ prefix_len is_table ops
table_more ops i d h l is = elim (cases_order i (prefix_len is_table ops)) [
  | inl same ↦
      let stops = prefix_len_stops is_table ops d (omega (arith, same)) in
      absurd (false≢true (sym stops ∙ ap (λ k. is_table (get_or ops k d)) (sym same) ∙ is))
  | inr order ↦ omega (arith, order)
]

-- where another operation stands, all tables in front are before it
pub front_ends : (ops : List Op) (i : ℕ) (d : Op) → i ≤ prefix_len is_table ops
    → is_table (get_or ops i d) ≡ false → prefix_len is_table ops ≡ i
front_ends ops i d h is = elim (cases_order i (prefix_len is_table ops)) [
  | inl same ↦ sym same
  | inr (inl below) ↦
      absurd (false≢true (sym is ∙ prefix_len_passes is_table ops i d (omega (arith, below))))
  | inr (inr above) ↦ omega (arith, above)
]

pub in_none : (frame : Frame) (canvases : List Canvas) → length canvases ≡ 0 → image_in frame canvases ≡ frame
in_none frame [] n = refl
in_none frame (canvas ∷ canvases) n = absurd (omega (arith, n))

pub in_last : (frame : Frame) (canvases : List Canvas) (d : Canvas) → 0 < length canvases
    → image_in frame canvases ≡ frame_of (get_or canvases (length canvases - 1) d)
in_last frame canvases d some = rw (slice_get-get_or canvases (length canvases - 1) d (omega arith)) refl

pub of_last : (P : Canvas → Type 0) (canvases : List Canvas) (d : Canvas) → 0 < length canvases
    → P (get_or canvases (length canvases - 1) d) → IfSome (last_canvas canvases) P
of_last P canvases d some held = rw (slice_get-get_or canvases (length canvases - 1) d (omega arith)) held

pub of_last_of_all : (P : Canvas → Type 0) (canvases : List Canvas) → All P canvases
    → IfSome (last_canvas canvases) P
of_last_of_all P [] held = tt
of_last_of_all P (canvas ∷ canvases) held =
    let all = canvas ∷ canvases in
    of_last P all canvas (omega arith) (held (length all - 1) canvas (omega arith))

-- the image has the frame's line
pub line_held : (frame new : Frame) (old canvases : List Canvas) → length canvases ≡ length old
    → line_of new ≡ line_of frame → KeepLines old canvases
    → IfSome (last_canvas old) (λ canvas. line_of (frame_of canvas) ≡ line_of frame)
    → line_of (image_in new canvases) ≡ line_of frame
line_held frame new [] [] n line keep lined = line
line_held frame new [] (canvas ∷ canvases) n line keep lined = absurd (omega (arith, n))
line_held frame new (canvas ∷ old) canvases n line keep lined =
    let all = canvas ∷ old in
    let was : line_of (frame_of (get_or all (length all - 1) canvas)) ≡ line_of frame =
    rw (slice_get-get_or all (length all - 1) canvas (omega arith)) at lined in
    ap line_of (in_last new canvases canvas (omega (arith, n)))
    ∙ ap (λ k. line_of (frame_of (get_or canvases (k - 1) canvas))) n
    ∙ keep (length all - 1) canvas ∙ was
