-- Images, one operation more at a time.
use Rattle.std.proofs.Math.Logic.{∥∥₁_elim}
use Rattle.std.proofs.Props.{props}
use Rattle.y4m_header.specs.FrameLine.{IsFrameLine}
use Rattle.std.proofs.lemmas.Option.{get_or_from_slice_get}
use Rattle.frame_view.specs.declared.geometry.Geometry.{Geometry}
use Rattle.filters.specs.Chain.{ChainValue, IsImageGeometry, format_of, format_after, format_at}
use Rattle.filters.proofs.ChainDoable.{last_format_more}
use Rattle.std.proofs.Common.{slice_get, slice_set, Some, inl, inr, ◌++◌, ◌-◌, ◌≤◌, ◌≢◌, ℕ, ◌≡◌, ◌+◌, ◌<◌}
use Rattle.std.proofs.Common.{zero, suc}
use Rattle.std.proofs.Common.{List, [], ◌∷◌, length, take, drop, get_or, arith, refl, sym, ap, subst, ◌∙◌, add-one}
use Rattle.frame_view.specs.Frame.{line_of}
use Rattle.filters.specs.declared.op.Op.{Op}
use Rattle.filters.specs.ChainImage.{FrameValue, IsCanvasAt, IsImage, IsImageByAll}
use Rattle.filters.specs.Front.{AreCanvases, KeepLines, front_of}
use Rattle.row_bands.specs.declared.canvas.Canvas.{Canvas}
use Rattle.row_bands.specs.Canvas.{frame_of}
use Rattle.std.proofs.Math.ListN.{get_or-append}
use Rattle.std.proofs.Math.Seq.{get_or-append_seam}
use Rattle.std.proofs.lemmas.Bool.{cases_order}
use Rattle.std.proofs.lemmas.List.{get_or_default, get_or-set_same, get_or-set_other, length-set}
use Rattle.std.proofs.lemmas.List.{take-append-drop}
use Rattle.std.proofs.lemmas.List.{set-append_right, get_or-append_right}

-- an image is made of a frame with whatever line
image_of_lined : (op : Op) (source image : FrameValue) (line : List ℕ)
    → IsImage op (record source { line = line }) image → IsImage op source image
image_of_lined op source image line is =
    record { geometry = is.geometry; whole = is.whole; pixels = is.pixels }

-- one operation more
pub image_more : (ops : List Op) (source between image : FrameValue) (i : ℕ) (d : Op) → i < length ops
    → IsImageByAll (take i ops) source between → IsImage (get_or ops i d) between image
    → IsImageByAll (take (i + 1) ops) source image
image_more [] source between image i d h all is = absurd (omega arith)
image_more (op ∷ ops) source between image zero d h all is =
    (image, image_of_lined op source image between.line (subst (λ v. IsImage op v image) all is), refl)
image_more (op ∷ ops) source between image (suc i) d h all is =
    let rest : IsImageByAll (take (i + 1) ops) all.0 image =
    image_more ops all.0 between image i d (omega arith) all.2 is in
    rw add-one (all.0, all.1, rw add-one at rest)

-- the line of what the operations are done on doesn't matter
images_of_lined : (ops : List Op) (source image : FrameValue) (line : List ℕ)
    → IsImageByAll ops (record source { line = line }) image → IsImageByAll ops source image
images_of_lined [] source image line all = all
images_of_lined (op ∷ ops) source image line all =
    (all.0, image_of_lined op source all.0 line all.1, all.2)

-- some operations, and then others
images_joined : (ops more : List Op) (source between image : FrameValue) → IsImageByAll ops source between
    → IsImageByAll more between image → IsImageByAll (ops ++ more) source image
images_joined [] more source between image all then =
    images_of_lined more source image between.line (subst (λ v. IsImageByAll more v image) all then)
images_joined (op ∷ ops) more source between image all then =
    (all.0, all.1, images_joined ops more all.0 between image all.2 then)

-- the first n operations, and then the others
pub images_parted : (ops : List Op) (n : ℕ) (source between image : FrameValue)
    → IsImageByAll (take n ops) source between → IsImageByAll (drop n ops) between image
    → IsImageByAll ops source image
images_parted ops n source between image all then =
    let Made : List Op → Type 0 = λ l. IsImageByAll l source image in
    subst Made (take-append-drop n ops) (images_joined (take n ops) (drop n ops) source between image all then)

pub is_frame_line : (line : List ℕ) → ∥ IsFrameLine line ∥₁ → IsFrameLine line
is_frame_line line s = ∥∥₁_elim s (hlevel props) (λ is. is)

-- the format that an operation of a chain makes of the one that reaches it
pub format_next : (chain : ChainValue) (i : ℕ) (op : Op) (g image : Geometry) → i < length chain.ops
    → slice_get chain.ops i ≡ Some op
    → format_of g ≡ format_at chain i → IsImageGeometry op g image → format_of image ≡ format_at chain (i + 1)
format_next chain i op g image h e p is =
    is.format ∙ ap (format_after op) p
    ∙ ap (λ o. format_after o (format_at chain i)) (sym (get_or_from_slice_get chain.ops i op op e))
    ∙ sym (last_format_more chain.ops (format_of chain.geometry) i op h)

pub image_at : (ops : List Op) (i : ℕ) (op d : Op) (source image : FrameValue) → slice_get ops i ≡ Some op
    → IsImage op source image
    → IsImage (get_or ops i d) source image
image_at ops i op d source image e is = rw (get_or_from_slice_get ops i op d e) is

-- one canvas more
pub canvases_more : (P : ℕ → Canvas → Type 0) (canvases more : List Canvas) (canvas : Canvas) (i : ℕ)
    → length canvases ≡ i → more ≡ canvases ++ canvas ∷ []
    → ((k : ℕ) (d : Canvas) → k < i → P k (get_or canvases k d)) → P i canvas
    → (k : ℕ) (d : Canvas) → k < i + 1 → P k (get_or more k d)
canvases_more P canvases more canvas i n e each new k d h = elim (cases_order k i) [
  | inl same ↦
      let at : get_or more k d ≡ canvas =
      ap (λ cs. get_or cs k d) e ∙ ap (λ j. get_or (canvases ++ canvas ∷ []) j d) (same ∙ sym n)
      ∙ get_or-append_seam canvases canvas [] d in
      rw (at, same) new
  | inr order ↦ elim order [
    | inl below ↦
        let at : get_or more k d ≡ get_or canvases k d =
        ap (λ cs. get_or cs k d) e ∙ get_or-append canvases (canvas ∷ []) d k (omega arith) in
        rw at (each k d below)
    | inr above ↦ absurd (omega arith)
  ]
]

-- one canvas painted
module _ (canvases : List Canvas) (i : ℕ) (canvas : Canvas) (h : i < length canvases) where
  pub canvases_painted : (chain : ChainValue) → AreCanvases chain canvases
      → IsCanvasAt chain (front_of chain + i) canvas → AreCanvases chain (slice_set canvases i canvas)
  canvases_painted chain all new = record {
    count = ap (λ n. front_of chain + n) (length-set canvases i canvas) ∙ all.count;
    each = λ k d l. elim (cases_order k i) [
      | inl same ↦
          let at : get_or (slice_set canvases i canvas) k d ≡ canvas =
          ap (λ j. get_or (slice_set canvases i canvas) j d) same ∙ get_or-set_same canvases i canvas d h in
          rw (at, same) new
      | inr order ↦
          let other : k ≢ i = omega (arith, order) in
          rw (get_or-set_other canvases i k canvas d other)
          (all.each k d (rw (length-set canvases i canvas) at l))
    ];
  }

  pub lines_painted : ((d : Canvas) → line_of (frame_of canvas) ≡ line_of (frame_of (get_or canvases i d)))
      → KeepLines canvases (slice_set canvases i canvas)
  lines_painted line k d = elim (cases_order k i) [
    | inl same ↦
        let at : get_or (slice_set canvases i canvas) i d ≡ canvas = get_or-set_same canvases i canvas d h in
        rw (same, at) (line d)
    | inr order ↦
        let other : k ≢ i = omega (arith, order) in
        rw (get_or-set_other canvases i k canvas d other) refl
  ]

pub lines_kept : (old mid new : List Canvas) → KeepLines old mid → KeepLines mid new → KeepLines old new
lines_kept old mid new first then i d = then i d ∙ first i d

pub painted_rest : (done rest canvases : List Canvas) (i : ℕ) (canvas : Canvas) → canvases ≡ done ++ rest
    → length done ≡ i
    → done ++ slice_set rest 0 canvas ≡ slice_set canvases i canvas
painted_rest done rest canvases i canvas e n =
    let none : i - i ≡ 0 = omega arith in
    rw e (sym
    (set-append_right done rest i i canvas n (omega arith) ∙ ap (λ j. done ++ slice_set rest j canvas) none))

-- the canvas before
pub canvas_before : (done rest canvases : List Canvas) (i : ℕ) (before d : Canvas) → canvases ≡ done ++ rest
    → length done ≡ i → 1 ≤ i → before ≡ get_or done (i - 1) before
    → get_or canvases (i - 1) d ≡ before
canvas_before done rest canvases i before d e n h is =
    ap (λ cs. get_or cs (i - 1) d) e ∙ get_or-append done rest d (i - 1) (omega arith)
    ∙ get_or_default done (i - 1) d before (omega arith) ∙ sym is

pub painted_at : (done rest canvases : List Canvas) (i : ℕ) (canvas d : Canvas) → canvases ≡ done ++ rest
    → length done ≡ i → i < length canvases
    → get_or (done ++ slice_set rest 0 canvas) i d ≡ canvas
painted_at done rest canvases i canvas d e n h =
    ap (λ cs. get_or cs i d) (painted_rest done rest canvases i canvas e n)
    ∙ get_or-set_same canvases i canvas d h

pub canvas_rest : (done rest canvases : List Canvas) (i : ℕ) (d : Canvas) → canvases ≡ done ++ rest
    → length done ≡ i → get_or canvases i d ≡ get_or rest 0 d
canvas_rest done rest canvases i d e n =
    let none : i - i ≡ 0 = omega arith in
    ap (λ cs. get_or cs i d) e ∙ get_or-append_right done rest i i d n (omega arith)
    ∙ ap (λ j. get_or rest j d) none
