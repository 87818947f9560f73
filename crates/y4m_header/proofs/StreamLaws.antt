-- A text is cut into its header and its frames in one way.
use Rattle.std.proofs.Common.{◌≡◌, ◌≢◌, ℕ, List, [], ◌∷◌, ◌++◌, length, All, refl, sym, ap, ◌∙◌}
use Rattle.std.proofs.Common.{arith, append_assoc}
use Rattle.std.proofs.lemmas.List.{append-nil}
use Rattle.std.proofs.lemmas.List.Elements.{All-head, All-tail}
use Rattle.y4m_header.specs.Chroma.{data_len}
use Rattle.y4m_header.specs.StreamText.{FrameText, IsFrameOf, text_of, frames_text, HoldsFrames}
use Rattle.y4m_header.specs.StreamText.{FramesAreDetermined}
use Rattle.y4m_header.proofs.Refusals.{one_format}

abbrev pub IsNoFeed : ℕ → Type 0
IsNoFeed byte = byte ≢ 10

-- what stands before the first line feed is one line
pub one_line : (a b x y : List ℕ) → All IsNoFeed a → All IsNoFeed b → a ++ 10 ∷ x ≡ b ++ 10 ∷ y
    → (a ≡ b) × (x ≡ y)
one_line [] [] x y p q e = (refl, cc)
one_line [] (c ∷ b) x y p q e = absurd (All-head IsNoFeed c b q (cc))
one_line (c ∷ a) [] x y p q e = absurd (All-head IsNoFeed c a p (cc))
one_line (c ∷ a) (d ∷ b) x y p q e =
    let tail : a ++ 10 ∷ x ≡ b ++ 10 ∷ y = cc in
    let same : c ≡ d = cc in
    let rest = one_line a b x y (All-tail IsNoFeed c a p) (All-tail IsNoFeed d b q) tail in
    (cc, rest.1)

-- parts of one length
pub one_cut : (a b x y : List ℕ) → length a ≡ length b → a ++ x ≡ b ++ y → (a ≡ b) × (x ≡ y)
one_cut [] [] x y n e = (refl, e)
one_cut [] (d ∷ b) x y n e = absurd (omega arith)
one_cut (c ∷ a) [] x y n e = absurd (omega arith)
one_cut (c ∷ a) (d ∷ b) x y n e =
    let tail : a ++ x ≡ b ++ y = cc in
    let same : c ≡ d = cc in
    let rest = one_cut a b x y (omega arith) tail in
    (cc, rest.1)

frame_at : (a b : FrameText) → a.line ≡ b.line → a.samples ≡ b.samples → a ≡ b
frame_at a b p q = λ i. record { line = p i; samples = q i }

-- a frame's text, and what stands behind its line
behind_line : (a : FrameText) (x : List ℕ) → text_of a ++ x ≡ a.line ++ 10 ∷ (a.samples ++ x)
behind_line a x = append_assoc a.line (10 ∷ a.samples) x

-- the first frame of a text
pub one_frame : (len : ℕ) (a b : FrameText) (x y : List ℕ) → IsFrameOf len a → IsFrameOf len b
    → text_of a ++ x ≡ text_of b ++ y → (a ≡ b) × (x ≡ y)
one_frame len a b x y p q e =
    let p_line = p.is_line.is_line.no_feed in
    let q_line = q.is_line.is_line.no_feed in
    let cut = sym (behind_line a x) ∙ e ∙ behind_line b y in
    let lines = one_line a.line b.line (a.samples ++ x) (b.samples ++ y) p_line q_line cut in
    let parts = one_cut a.samples b.samples x y (p.whole ∙ sym q.whole) lines.1 in
    (frame_at a b lines.0 parts.0, parts.1)

-- what stands behind the first frame
behind_frame : (f : FrameText) (fs : List FrameText) (x : List ℕ)
    → frames_text (f ∷ fs) ++ x ≡ text_of f ++ (frames_text fs ++ x)
behind_frame f fs x = append_assoc (text_of f) (frames_text fs) x

pub same_frames : (len : ℕ) (fs gs : List FrameText) (x y : List ℕ) → All (IsFrameOf len) fs
    → All (IsFrameOf len) gs → length fs ≡ length gs → frames_text fs ++ x ≡ frames_text gs ++ y
    → (fs ≡ gs) × (x ≡ y)
same_frames len [] [] x y p q n e = (refl, e)
same_frames len [] (g ∷ gs) x y p q n e = absurd (omega arith)
same_frames len (f ∷ fs) [] x y p q n e = absurd (omega arith)
same_frames len (f ∷ fs) (g ∷ gs) x y p q n e =
    let cut = sym (behind_frame f fs x) ∙ e ∙ behind_frame g gs y in
    let p_first = All-head (IsFrameOf len) f fs p in
    let q_first = All-head (IsFrameOf len) g gs q in
    let p_rest = All-tail (IsFrameOf len) f fs p in
    let q_rest = All-tail (IsFrameOf len) g gs q in
    let first = one_frame len f g (frames_text fs ++ x) (frames_text gs ++ y) p_first q_first cut in
    let rest = same_frames len fs gs x y p_rest q_rest (omega arith) first.1 in
    let same : f ≡ g = first.0 in
    let others : fs ≡ gs = rest.0 in
    (cc, rest.1)

-- the text, cut behind its header line
pub behind_header : (text : List ℕ) (n : ℕ) (a : HoldsFrames text n)
    → text ≡ a.header ++ 10 ∷ (frames_text a.frames ++ a.rest)
behind_header text n a =
    let is = a.whole ∙ ap (λ (f : List ℕ). f ++ a.rest) a.is_text.is_text in
    is ∙ append_assoc a.header (10 ∷ frames_text a.frames) a.rest

pub one_reading : FramesAreDetermined
one_reading text n a b =
    let x = a.is_text in
    let y = b.is_text in
    let x_line = x.is_header.stated.is_y4m.is_line.no_feed in
    let y_line = y.is_header.stated.is_y4m.is_line.no_feed in
    let a_left = frames_text a.frames ++ a.rest in
    let b_left = frames_text b.frames ++ b.rest in
    let cut = sym (behind_header text n a) ∙ behind_header text n b in
    let headers = one_line a.header b.header a_left b_left x_line y_line cut in
    let x_header = rw headers.0 at x.is_header in
    let same = one_format b.header x.w x.h x.chroma y.w y.h y.chroma x_header y.is_header in
    let len = data_len y.w y.h y.chroma in
    let lens : data_len x.w x.h x.chroma ≡ len = rw (same.width, same.height, same.form) refl in
    let each = rw lens at x.each in
    let count = a.count ∙ sym b.count in
    let frames = same_frames len a.frames b.frames a.rest b.rest each y.each count headers.1 in
    let header : a.header ≡ b.header = headers.0 in
    let all : a.frames ≡ b.frames = frames.0 in
    let front : a.front ≡ b.front = x.is_text ∙ rw (header, all) (sym y.is_text) in
    (front, frames.1, header, all)

-- one more frame at the end
pub frames_text-push : (frames : List FrameText) (frame : FrameText)
    → frames_text (frames ++ frame ∷ []) ≡ frames_text frames ++ text_of frame
frames_text-push [] frame = append-nil (text_of frame)
frames_text-push (first ∷ frames) frame =
    let more = ap (λ (t : List ℕ). text_of first ++ t) (frames_text-push frames frame) in
    more ∙ sym (append_assoc (text_of first) (frames_text frames) (text_of frame))
