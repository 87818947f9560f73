-- The frames of a job: what each operation is done on, and what becomes its image.
use Rattle.std.proofs.Common.{ℕ, ◌≡◌, ◌+◌, ◌<◌, ◌≤◌, zero, suc, List, [], ◌∷◌, ◌++◌, length, map, get_or}
use Rattle.std.proofs.Common.{slice_set, arith, refl, sym, ap, ◌∙◌, add-one, length-append}
use Rattle.std.proofs.Math.ListN.{get_or-append}
use Rattle.std.proofs.Math.Seq.{get_or-append_seam, set-append_seam}
use Rattle.std.proofs.lemmas.List.{get_or-map, get_or_default, set-append_left, map-set, map-append}
use Rattle.std.proofs.lemmas.List.{append_assoc, append-nil, length-map, take_all}
use Rattle.frame_view.specs.declared.frame.Frame.{Frame}
use Rattle.row_bands.specs.declared.canvas.Canvas.{Canvas}
use Rattle.row_bands.specs.Canvas.{frame_of}
use Rattle.filters.specs.Chain.{ChainValue, format_of, format_at, last_format}
use Rattle.filters.specs.ChainImage.{IsCanvasAt}
use Rattle.lease.specs.Canvases.{IsImageCanvas, IsScratch}
use Rattle.lease.specs.Job.{frames_by}

frame_next : (source : Frame) (frames : List Frame) (i : ℕ) (d : Frame)
    → get_or (source ∷ frames) (i + 1) d ≡ get_or frames i d
frame_next source frames i d = rw add-one refl

-- the image of an operation that isn't the last
pub frame_between : (source : Frame) (scratch : List Canvas) (last : Canvas) (i : ℕ) (d : Frame) (e : Canvas)
    → i < length scratch
    → get_or (frames_by source scratch last) (i + 1) d ≡ frame_of (get_or scratch i e)
frame_between source scratch last i d e h =
    let all = scratch ++ last ∷ [] in
    frame_next source (map frame_of all) i d
    ∙ get_or-map frame_of all i e d (omega (arith, h, length-append scratch (last ∷ [])))
    ∙ ap frame_of (get_or-append scratch (last ∷ []) e i h)

-- the image of the last operation
pub frame_last : (source : Frame) (scratch : List Canvas) (last : Canvas) (d : Frame)
    → get_or (frames_by source scratch last) (length scratch + 1) d ≡ frame_of last
frame_last source scratch last d =
    let all = scratch ++ last ∷ [] in
    frame_next source (map frame_of all) (length scratch) d
    ∙ get_or-map frame_of all (length scratch) last d (omega (arith, length-append scratch (last ∷ [])))
    ∙ ap frame_of (get_or-append_seam scratch last [] last)

-- what the operation behind these canvases is done on
frame_reached : (source : Frame) (before rest : List Canvas) (last : Canvas) (d : Frame)
    → get_or (frames_by source (before ++ rest) last) (length before) d ≡ get_or
    (source ∷ map frame_of before) (length before) source
frame_reached source before rest last d =
    let reached = source ∷ map frame_of before in
    let within : length before < length reached = omega (arith, length-map before frame_of) in
    let split : frames_by source (before ++ rest) last ≡ reached ++ map frame_of (rest ++ last ∷ []) =
    ap (λ all. source ∷ map frame_of all) (append_assoc before rest (last ∷ []))
    ∙ ap (λ frames. source ∷ frames) (map-append frame_of before (rest ++ last ∷ [])) in
    ap (λ frames. get_or frames (length before) d) split
    ∙ get_or-append reached (map frame_of (rest ++ last ∷ [])) d (length before) within
    ∙ get_or_default reached (length before) d source within

pub part_reached : (source : Frame) (scratch before rest : List Canvas) (last : Canvas) (i : ℕ) (d : Frame)
    → scratch ≡ before ++ rest → length before ≡ i
    → get_or (frames_by source scratch last) i d ≡ get_or (source ∷ map frame_of before)
    (length before) source
part_reached source scratch before rest last i d e n =
    ap (λ canvases. get_or (frames_by source canvases last) i d) e
    ∙ ap (λ j. get_or (frames_by source (before ++ rest) last) j d) (sym n)
    ∙ frame_reached source before rest last d

pub last_reached : (source : Frame) (scratch : List Canvas) (last : Canvas) (d : Frame)
    → get_or (frames_by source scratch last) (length scratch) d ≡ get_or (source ∷ map frame_of scratch)
    (length scratch) source
last_reached source scratch last d =
    ap (λ canvases. get_or (frames_by source canvases last) (length scratch) d) (sym (append-nil scratch))
    ∙ frame_reached source scratch [] last d

pub set_between : (source : Frame) (scratch : List Canvas) (last : Canvas) (i : ℕ) (canvas : Canvas)
    → i < length scratch
    → frames_by source (slice_set scratch i canvas) last ≡ slice_set (frames_by source scratch last) (i + 1)
    (frame_of canvas)
set_between source scratch last i canvas h =
    let all = scratch ++ last ∷ [] in
    let same : source ∷ slice_set (map frame_of all) i (frame_of canvas) ≡ slice_set
    (source ∷ map frame_of all) (i + 1) (frame_of canvas) = rw add-one refl in
    ap (λ canvases. source ∷ map frame_of canvases) (sym (set-append_left scratch (last ∷ []) i canvas h))
    ∙ ap (λ frames. source ∷ frames) (map-set frame_of all i canvas) ∙ same

pub set_last : (source : Frame) (scratch : List Canvas) (last canvas : Canvas)
    → frames_by source scratch canvas ≡ slice_set (frames_by source scratch last) (length scratch + 1)
    (frame_of canvas)
set_last source scratch last canvas =
    let all = scratch ++ last ∷ [] in
    let same : source ∷ slice_set (map frame_of all) (length scratch) (frame_of canvas) ≡ slice_set
    (source ∷ map frame_of all) (length scratch + 1) (frame_of canvas) =
    rw add-one refl in
    ap (λ canvases. source ∷ map frame_of canvases) (sym (set-append_seam scratch last [] canvas))
    ∙ ap (λ frames. source ∷ frames) (map-set frame_of all (length scratch) canvas) ∙ same

-- the frames have the formats of the chain
pub format_between : (chain : ChainValue) (source : Frame) (scratch : List Canvas) (last : Canvas) (n : ℕ)
    (d : Frame)
    → source.geometry ≡ chain.geometry → IsScratch chain scratch → n ≤ length scratch
    → format_of (get_or (frames_by source scratch last) n d).geometry ≡ format_at chain n
format_between chain source scratch last zero d g fits h = ap format_of g
format_between chain source scratch last (suc i) d g fits h =
    let within : i < length scratch = omega arith in
    let at : get_or (frames_by source scratch last) (suc i) d ≡ frame_of (get_or scratch i last) =
    rw add-one at (frame_between source scratch last i d last within) in
    let format : format_of (frame_of (get_or scratch i last)).geometry ≡ format_at chain (suc i) =
    rw add-one at (fits.each i last within).format in
    rw at format

-- the canvas for the image is that for the last operation's output
pub last_at : (chain : ChainValue) (scratch : List Canvas) (last : Canvas) → IsScratch chain scratch
    → IsImageCanvas chain last → IsCanvasAt chain (length scratch) last
last_at chain scratch last fits is = record {
  format = is.format
      ∙ ap (λ ops. last_format ops (format_of chain.geometry))
      (sym (take_all (length scratch + 1) chain.ops (omega (arith, fits.count))));
  height = is.height;
}

pub format_last : (chain : ChainValue) (source : Frame) (scratch : List Canvas) (last : Canvas) (d : Frame)
    → IsScratch chain scratch → IsImageCanvas chain last
    → format_of (get_or (frames_by source scratch last) (length scratch + 1) d).geometry
    ≡ format_at chain (length scratch + 1)
format_last chain source scratch last d fits is =
    rw (frame_last source scratch last d) (last_at chain scratch last fits is).format

pub format_reached : (chain : ChainValue) (source : Frame) (scratch before rest : List Canvas) (i : ℕ)
    (d : Canvas) → source.geometry ≡ chain.geometry → IsScratch chain scratch
    → scratch ≡ before ++ rest → length before ≡ i → i ≤ length scratch
    → format_of (get_or (source ∷ map frame_of before) (length before) source).geometry ≡ format_at chain i
format_reached chain source scratch before rest i d g fits e n h =
    ap (λ frame. format_of frame.geometry) (sym (part_reached source scratch before rest d i source e n))
    ∙ format_between chain source scratch d i source g fits h

-- a frame for the source and for each canvas
pub length-frames : (source : Frame) (scratch : List Canvas) (last : Canvas)
    → length (frames_by source scratch last) ≡ length scratch + 2
length-frames source scratch last =
    omega (arith, length-map (scratch ++ last ∷ []) frame_of, length-append scratch (last ∷ []))
