-- What went out is a front of what the accepted frames are served as.
use Rattle.std.proofs.Common.{◌≡◌, ◌⊎◌, ℕ, ◌+◌, ◌≤◌, List, [], ◌∷◌, ◌++◌, length, take, refl, sym, ap, ◌∙◌}
use Rattle.std.proofs.Common.{append_assoc, length-append, arith, subst, inl, inr}
use Rattle.std.proofs.KnownBytes.{Appends-kept, Appends-nil}
use Rattle.std.proofs.Math.Seq.{take-append-add}
use Rattle.std.proofs.lemmas.List.{take-append-le}
use Rattle.std.specs.Io.KnownBytes.{Appends}
use Rattle.y4m_header.specs.StreamText.{FrameText, frames_text, stream_text, text_of}
use Rattle.filters.specs.Chain.{ChainValue}
use Rattle.y4m_stream.specs.Served.{AreImages, IsImageText, IsServedText, served_header}
use Rattle.y4m_stream.proofs.Determined.{one_image_text, one_list}
use Rattle.y4m_stream.proofs.Puts.{put_some_line}
use Rattle.serve_client.specs.Clients.{ClientOutcome, ClientStart, CutsHeader, EndsWithin, WroteImages, WroteNothing}
use Rattle.serve_client.specs.Laws.{AFrontWentOut, WroteFront}
use Rattle.serve_client.proofs.Moving.{frames_text-append}

module _ (chain : ChainValue) where
  -- images of frames and of more frames
  images_apart : (xs ys is : List FrameText) → AreImages chain (xs ++ ys) is
      → (js : List FrameText) × ((ks : List FrameText) × (is ≡ js ++ ks) × AreImages chain xs js × AreImages chain ys ks)
  images_apart [] ys is a = ([], (is, refl, tt, a))
  images_apart (x ∷ xs) ys [] a = absurd a
  images_apart (x ∷ xs) ys (i ∷ is) a =
      let more = images_apart xs ys is a.1 in
      (i ∷ more.0, (more.1.0, ap (λ l. i ∷ l) more.1.1, (a.0, more.1.2), more.1.3))

  -- what went out of the next image is a front of all that was left
  part_front : (later images : List FrameText) (part : List ℕ) (old new : ℕ) → AreImages chain later images
      → EndsWithin chain later part old new
      → (k : ℕ) × (k ≤ length (frames_text images)) × (part ≡ take k (frames_text images))
  part_front later images part old new made (inl a) = (0, omega arith, a.0)
  part_front [] images part old new made (inr a) = let both : [] ≡ a.0.next ∷ a.0.later = a.0.first in absurd (cc)
  part_front (frame ∷ later) [] part old new made (inr a) = absurd made
  part_front (frame ∷ later) (image ∷ images) part old new made (inr a) =
      let both : frame ∷ later ≡ a.0.next ∷ a.0.later = a.0.first in
      let next : a.0.next ≡ frame = cc in
      let same : a.0.image ≡ image = one_image_text chain chain refl refl frame a.0.image image
      (subst (λ f. IsImageText chain f a.0.image) next a.0.made) made.0 in
      let k : ℕ = a.0.n in
      let within : k ≤ length (text_of image) = omega (arith, a.0.partly, ap (λ i. length (text_of i)) same) in (
        k,
        omega (arith, within, length-append (text_of image) (frames_text images)),
        a.0.front ∙ ap (λ i. take k (text_of i)) same ∙ sym (take-append-le k (text_of image) (frames_text images) within),
      )

module _ (start : ClientStart) (end : ClientOutcome) (frames : List FrameText) (served : List ℕ)
    (is : IsServedText start.seat.chain start.reader.header.line frames served) where
  abbrev line : List ℕ
  line = served_header start.seat.chain start.reader.header.line

  front_of_images : WroteImages frames start end → WroteFront served start end
  front_of_images a =
      let chain : ChainValue = start.seat.chain in
      let apart = images_apart chain a.sent a.later is.images (subst (λ fs. AreImages chain fs is.images) a.first is.each) in
      let rest : List ℕ = frames_text apart.1.0 in
      let same : a.is_served.images ≡ apart.0 =
      one_list chain chain refl refl a.sent a.is_served.images apart.0 a.is_served.each apart.1.2 in
      let whole : served ≡ a.served ++ rest = is.whole ∙ ap (stream_text line) apart.1.1
      ∙ ap (λ l. line ++ 10 ∷ l) (frames_text-append apart.0 apart.1.0)
      ∙ sym (append_assoc line (10 ∷ frames_text apart.0) rest)
      ∙ ap (λ l. stream_text line l ++ rest) (sym same) ∙ ap (λ l. l ++ rest) (sym a.is_served.whole) in
      let part = part_front chain a.later apart.1.0 a.part start.failures end.failures apart.1.3 a.ends in
      let all : take (length a.served + part.0) served ≡ a.served ++ a.part =
      ap (take (length a.served + part.0)) whole ∙ take-append-add a.served rest part.0
      ∙ ap (λ l. a.served ++ l) (sym part.2) in
      record {
        n = length a.served + part.0;
        within = omega (arith, part.1, ap length whole, length-append a.served rest);
        front = subst (Appends start.before end.after) (sym all) a.wrote;
      }

  front_of : WroteNothing start end ⊎ CutsHeader start end ⊎ WroteImages frames start end → WroteFront served start end
  front_of (inl a) = record {
    n = 0;
    within = omega arith;
    front = Appends-kept start.before start.before end.after [] (Appends-nil start.before) a.kept;
  }
  front_of (inr (inl a)) = record {
    n = a.cut.n;
    within = omega (
      arith,
      a.cut.partly,
      ap length is.whole,
      length-append line (10 ∷ []),
      length-append line (10 ∷ frames_text is.images),
    );
    front = subst (λ (l : List ℕ). Appends start.before end.after (take a.cut.n l)) (sym is.whole)
        (put_some_line start.before end.after line (frames_text is.images) a.cut.n a.cut.partly a.cut.front);
  }
  front_of (inr (inr a)) = front_of_images a

pub a_front_went_out : AFrontWentOut
a_front_went_out start end frames served out is = front_of start end frames served is out
