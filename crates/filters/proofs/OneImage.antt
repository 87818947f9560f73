-- A frame has one image.
use Rattle.std.proofs.Common.{◌≡◌, ℕ, ◌+◌, ◌*◌, zero, suc, List, [], ◌∷◌, length, get_or, slice_index}
use Rattle.std.proofs.Common.{refl, sym, ap, ◌∙◌}
use Rattle.std.proofs.lemmas.Grind.{same_number_lists}
use Rattle.frame_view.specs.declared.geometry.Geometry.{Geometry}
use Rattle.frame_view.specs.Places.{plane_width, plane_height, plane_start, row_start, frame_len}
use Rattle.frame_view.specs.Rows.{IsPlace}
use Rattle.frame_view.proofs.Parted.{each_byte_in_one_row}
use Rattle.filters.specs.declared.op.Op.{Op}
use Rattle.filters.specs.Pixel.{pixel, Samples}
use Rattle.filters.specs.Image.{image_pixel, plane_of}
use Rattle.filters.specs.Chain.{format_of, format_after}
use Rattle.filters.specs.ChainImage.{FrameValue, IsImage, IsImageByAll, IsChainImage}
use Rattle.filters.proofs.ChainGeometry.{same_geometry}

module _ (g h : Geometry) (e : format_of g ≡ format_of h) where
  width : g.width ≡ h.width
  width = ap (λ z. z.width) e

  height : g.height ≡ h.height
  height = ap (λ z. z.height) e

  chroma : g.chroma ≡ h.chroma
  chroma = ap (λ z. z.chroma) e

  same_width : (p : ℕ) → plane_width g p ≡ plane_width h p
  unfolding plane_width
  same_width p = rw (width, chroma) refl

  same_height : (p : ℕ) → plane_height g p ≡ plane_height h p
  unfolding plane_height
  same_height p = rw (height, chroma) refl

  same_start : (p : ℕ) → plane_start g p ≡ plane_start h p
  unfolding plane_start
  same_start zero = refl
  same_start (suc p) = rw (same_start p, same_width p, same_height p) refl

  same_row : (p y : ℕ) → row_start g p y ≡ row_start h p y
  same_row p y = rw (same_start p, same_width p) refl

  same_place : (p y x : ℕ) → IsPlace g p y x → IsPlace h p y x
  same_place p y x place = record {
    plane = rw chroma at place.plane;
    row = rw (same_height p) at place.row;
    column = rw (same_width p) at place.column;
  }

  same_len : frame_len g ≡ frame_len h
  same_len = rw (width, height, chroma) refl

  same_pixel : (op : Op) (samples : List ℕ) (p y x : ℕ) → image_pixel op g samples p y x ≡ image_pixel op h samples p y x
  same_pixel op samples p y x =
      let from : ℕ → ℕ → ℕ → Samples =
      λ columns rows start. record { columns = columns; rows = rows; at = λ y x. slice_index samples (start + y * columns + x) } in
      let planes : plane_of g samples p ≡ plane_of h samples p =
      ap (λ n. from n (plane_height g p) (plane_start g p)) (same_width p)
      ∙ ap (λ n. from (plane_width h p) n (plane_start g p)) (same_height p)
      ∙ ap (from (plane_width h p) (plane_height h p)) (same_start p) in
      ap (λ c. pixel op c p (plane_of g samples p) y x) chroma ∙ ap (λ s. pixel op h.chroma p s y x) planes

-- two frames of one format with the same samples
pub record SamePixels (a b : FrameValue) : Type 0 where
  pub format : format_of a.geometry ≡ format_of b.geometry
  pub samples : a.samples ≡ b.samples

one_image : (op : Op) (s t a b : FrameValue) → SamePixels s t → IsImage op s a → IsImage op t b → SamePixels a b
one_image op s t a b same x y =
    let format : format_of a.geometry ≡ format_of b.geometry = x.geometry.format ∙ ap (format_after op) same.format
    ∙ sym y.geometry.format in
    let long : length a.samples ≡ length b.samples = x.whole ∙ same_len a.geometry b.geometry format ∙ sym y.whole in
    record {
      format = format;
      samples = same_number_lists a.samples b.samples long (λ k inside.
          let place = each_byte_in_one_row a.geometry k (rw x.whole at inside) in
          let p = place.0 in
          let row = place.1 in
          let column = place.2 in
          ap (λ i. get_or a.samples i 0) place.4 ∙ x.pixels p row column place.3
          ∙ ap (λ samples. image_pixel op s.geometry samples p row column) same.samples
          ∙ same_pixel s.geometry t.geometry same.format op t.samples p row column
          ∙ sym (y.pixels p row column (same_place a.geometry b.geometry format p row column place.3))
          ∙ ap (λ i. get_or b.samples i 0) (ap (λ i. i + column) (sym (same_row a.geometry b.geometry format p row)) ∙ sym place.4));
    }

pub one_image_by_all : (ops : List Op) (s t a b : FrameValue) → SamePixels s t → IsImageByAll ops s a
    → IsImageByAll ops t b → SamePixels a b
one_image_by_all [] s t a b same x y = rw (x, y) (record { format = same.format; samples = same.samples })
one_image_by_all (op ∷ ops) s t a b same x y = one_image_by_all ops x.0 y.0 a b (one_image op s t x.0 y.0 same x.1 y.1) x.2 y.2

same_frame : (g h : Geometry) (k l xs ys : List ℕ) → g ≡ h → k ≡ l → xs ≡ ys
    → let frame : Geometry → List ℕ → List ℕ → FrameValue = λ g k xs. record { geometry = g; line = k; samples = xs } in
    frame g k xs ≡ frame h l ys
same_frame g h k l xs ys a b c = rw (a, b, c) refl

-- a chain makes one image of a frame
pub one_chain_image : (ops : List Op) (s a b : FrameValue) → IsChainImage ops s a → IsChainImage ops s b → a ≡ b
one_chain_image ops s a b x y =
    let same = one_image_by_all ops s s a b (record { format = refl; samples = refl }) x.by_all y.by_all in
    same_frame a.geometry b.geometry a.line b.line a.samples b.samples
    (same_geometry a.geometry b.geometry same.format) (x.line ∙ sym y.line) same.samples
