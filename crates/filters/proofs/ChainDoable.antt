-- Operations that follow one another, one more at a time.
use Rattle.std.proofs.Common.{ℕ, ◌≡◌, ◌+◌, ◌<◌, zero, suc, List, [], ◌∷◌, length, take, drop, get_or, arith}
use Rattle.std.proofs.Common.{refl, sym, ap, ◌∙◌, add-one}
use Rattle.std.proofs.Math.Logic.{∥∥₁_elim}
use Rattle.std.proofs.Props.{props}
use Rattle.std.proofs.lemmas.List.{drop_more}
use Rattle.std.proofs.lemmas.List.Elements.{All-get_or}
use Rattle.frame_view.specs.declared.geometry.Geometry.{Geometry}
use Rattle.filters.specs.declared.op.Op.{Op}
use Rattle.filters.specs.declared.op.Op.TheVariants.{Table, HFlip, VFlip, Crop, Blur}
use Rattle.filters.specs.declared.op.Crop.{Crop as Rectangle}
use Rattle.filters.specs.Ops.{HasGoodRadius, IsRectangleOf, IsDoable}
use Rattle.filters.specs.Chain.{ChainValue, Format, IsImageGeometry, format_of, format_after, format_at}
use Rattle.filters.specs.Chain.{last_format, AreDoable}
use Rattle.filters.proofs.Doable.{IsDoable-prop}
use Rattle.filters.specs.Refusal.{IsChain}

-- geometries of one format can do the same
rectangle_same : (crop : Rectangle) (g h : Geometry) → format_of g ≡ format_of h → IsRectangleOf crop g
    → IsRectangleOf crop h
rectangle_same crop g h e r =
    let width : h.width ≡ g.width = ap (λ p. p.width) (sym e) in
    let height : h.height ≡ g.height = ap (λ p. p.height) (sym e) in
    let chroma : h.chroma ≡ g.chroma = ap (λ p. p.chroma) (sym e) in
    record {
      some_columns = r.some_columns;
      some_rows = r.some_rows;
      across = rw width r.across;
      down = rw height r.down;
      whole_x = rw chroma r.whole_x;
      whole_y = rw chroma r.whole_y;
      whole_width = rw chroma r.whole_width;
      whole_height = rw chroma r.whole_height;
    }

doable_same : (op : Op) (g h : Geometry) → format_of g ≡ format_of h → IsDoable op g → IsDoable op h
doable_same (Table table) g h e d = d
doable_same HFlip g h e d = d
doable_same VFlip g h e d = d
doable_same (Crop crop) g h e d = rectangle_same crop g h e d
doable_same (Blur blur) g h e d = d

all_same : (ops : List Op) (g h : Geometry) → format_of g ≡ format_of h → AreDoable ops g → AreDoable ops h
all_same [] g h e d = d
all_same (op ∷ ops) g h e d = (
  doable_same op g h e d.0,
  (d.1.0, record { format = d.1.1.format ∙ ap (format_after op) e }, d.1.2),
)

-- the rest can be done on what an operation makes
rest_doable : (op : Op) (ops : List Op) (g image : Geometry) → IsImageGeometry op g image
    → AreDoable (op ∷ ops) g → AreDoable ops image
rest_doable op ops g image is d =
    all_same ops d.1.0 image (d.1.1.format ∙ sym is.format) d.1.2

pub doable_next : (ops : List Op) (i : ℕ) (d : Op) (g image : Geometry) → i < length ops
    → IsImageGeometry (get_or ops i d) g image
    → AreDoable (drop i ops) g → AreDoable (drop (i + 1) ops) image
doable_next ops i d g image h is all =
    rest_doable (get_or ops i d) (drop (i + 1) ops) g image is (rw (drop_more ops i d h) at all)

pub doable_before : (ops : List Op) (i : ℕ) (d : Op) (g image : Geometry) → i < length ops
    → IsDoable (get_or ops i d) g → IsImageGeometry (get_or ops i d) g image
    → AreDoable (drop (i + 1) ops) image → AreDoable (drop i ops) g
doable_before ops i d g image h can is rest = rw (drop_more ops i d h) (can, (image, is, rest))

-- the format after one operation more
pub last_format_more : (ops : List Op) (format : Format) (i : ℕ) (d : Op) → i < length ops
    → last_format (take (i + 1) ops) format ≡ format_after (get_or ops i d) (last_format (take i ops) format)
last_format_more [] format i d h = absurd (omega arith)
last_format_more (first ∷ ops) format zero d h = refl
last_format_more (first ∷ ops) format (suc i) d h =
    rw add-one (rw add-one at (last_format_more ops (format_after first format) i d (omega arith)))

doable_from : (ops : List Op) (g h : Geometry) (i : ℕ) (d : Op) → i < length ops
    → format_of h ≡ last_format (take i ops) (format_of g)
    → AreDoable ops g → IsDoable (get_or ops i d) h
doable_from [] g h i d l p all = absurd (omega arith)
doable_from (first ∷ ops) g h zero d l p all = doable_same first g h (sym p) all.0
doable_from (first ∷ ops) g h (suc i) d l p all =
    doable_from ops all.1.0 h i d (omega arith) (p ∙ ap (last_format (take i ops)) (sym all.1.1.format))
    all.1.2

one_radius : (op : Op) → IsProp (HasGoodRadius op)
one_radius (Table table) = hlevel props
one_radius HFlip = hlevel props
one_radius VFlip = hlevel props
one_radius (Crop crop) = hlevel props
one_radius (Blur blur) = hlevel props

pub radius_at : (chain : ChainValue) (i : ℕ) (d : Op) → i < length chain.ops → ∥ IsChain chain ∥₁
    → HasGoodRadius (get_or chain.ops i d)
radius_at chain i d l s =
    ∥∥₁_elim s (one_radius (get_or chain.ops i d)) (λ is. All-get_or HasGoodRadius chain.ops i d l is.radii)

-- an operation of a chain can be done on the picture that reaches it
pub doable_at : (chain : ChainValue) (i : ℕ) (d : Op) (h : Geometry) → i < length chain.ops
    → ∥ IsChain chain ∥₁
    → format_of h ≡ format_at chain i → IsDoable (get_or chain.ops i d) h
doable_at chain i d h l s p =
    ∥∥₁_elim s (IsDoable-prop (get_or chain.ops i d) h)
    (λ is. doable_from chain.ops chain.geometry h i d l p is.doable)

pub image_geometry_at : (chain : ChainValue) (i : ℕ) (d : Op) (g image : Geometry) → i < length chain.ops
    → format_of g ≡ format_at chain i
    → format_of image ≡ format_at chain (i + 1) → IsImageGeometry (get_or chain.ops i d) g image
image_geometry_at chain i d g image l p q = record {
  format = q ∙ last_format_more chain.ops (format_of chain.geometry) i d l
      ∙ ap (format_after (get_or chain.ops i d)) (sym p);
}
