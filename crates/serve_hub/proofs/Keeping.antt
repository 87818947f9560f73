-- The frames that a seat keeps.
use Rattle.std.proofs.Common.{zero, suc, ◌≡◌, List, [], ◌∷◌, ◌++◌, drop, refl, subst, sym, arith}
use Rattle.std.proofs.Common.{ap, Option, Some, None, IfSome}
use Rattle.std.specs.Option.{option_to_list}
use Rattle.std.proofs.lemmas.List.{map-append}
use Rattle.std.proofs.lemmas.List.Elements.{All-append}
use Rattle.std.specs.declared.alloc.Global.{Global}
use Rattle.std.specs.declared.sync.Arc.{Arc}
use Rattle.std.specs.Arc.{arc_value}
use Rattle.frame_view.specs.declared.frame.Frame.{Frame}
use Rattle.frame_view.specs.declared.geometry.Geometry.{Geometry}
use Rattle.filters.specs.ChainImage.{FrameValue, value_of}
use Rattle.serve_hub.specs.Seats.{AreSized, kept_in}

one_sized : (g : Geometry) (f : Arc Frame Global) → (arc_value f).geometry ≡ g → AreSized g (kept_in (f ∷ []))
one_sized g f e zero d l = e
one_sized g f e (suc k) d l = absurd (omega arith)

-- one frame more is kept
pub one_more_kept : (fs : List (Arc Frame Global)) (f : Arc Frame Global)
    → kept_in (fs ++ f ∷ []) ≡ kept_in fs ++ value_of (arc_value f) ∷ []
one_more_kept fs f = map-append (λ (x : Arc Frame Global). value_of (arc_value x)) fs (f ∷ [])

pub sized_more : (g : Geometry) (fs : List (Arc Frame Global)) (f : Arc Frame Global) → AreSized g (kept_in fs)
    → (arc_value f).geometry ≡ g → AreSized g (kept_in (fs ++ f ∷ []))
sized_more g fs f all e =
    subst (AreSized g) (sym (one_more_kept fs f))
    (All-append (λ (x : FrameValue). x.geometry ≡ g) (kept_in fs) (kept_in (f ∷ [])) all (one_sized g f e))

-- the oldest is given up
pub rest_kept : (fs : List (Arc Frame Global)) → kept_in (drop 1 fs) ≡ drop 1 (kept_in fs)
rest_kept [] = refl
rest_kept (f ∷ fs) = refl

pub sized_rest : (g : Geometry) (fs : List (Arc Frame Global)) → AreSized g (kept_in fs)
    → AreSized g (kept_in (drop 1 fs))
sized_rest g [] all = all
sized_rest g (f ∷ fs) all = λ k d l. all (suc k) d (omega (arith, l))

pub first_sized : (g : Geometry) (old new : List (Arc Frame Global)) (o : Option (Arc Frame Global))
    → old ≡ option_to_list o ++ new → AreSized g (kept_in old)
    → IfSome o (λ f. (arc_value f).geometry ≡ g)
first_sized g old new None e all = tt
first_sized g old new (Some f) e all =
    subst (λ (fs : List (Arc Frame Global)). AreSized g (kept_in fs)) e all 0 (value_of (arc_value f)) (omega arith)

pub same_size : (a b : Frame) → value_of a ≡ value_of b → a.geometry ≡ b.geometry
same_size a b e = ap (λ (v : FrameValue). v.geometry) e
