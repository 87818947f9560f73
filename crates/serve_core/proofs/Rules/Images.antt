-- A frame has one size and one image.
use Rattle.std.proofs.Common.{◌≡◌, Bool, true, false, IsTrue, refl, sym}
use Rattle.filters.proofs.OneImage.{one_chain_image}
use Rattle.serve_core.specs.Frames.{is_image, measures}
use Rattle.serve_core.specs.Laws.{AreDetermined}

one_test : (a b : Bool) (P : Type 0) → (IsTrue a → P) → (P → IsTrue b) → (IsTrue b → P) → (P → IsTrue a)
    → a ≡ b
one_test true b P f g h i = sym (g (f refl))
one_test false true P f g h i = i (h refl)
one_test false false P f g h i = refl

pub determined : AreDetermined measures is_image
determined = (
  λ spec f a b p q. one_test a b (f.geometry ≡ spec.geometry) p.0 q.1 q.0 p.1,
  λ spec f g h p q. one_chain_image spec.chain.ops f g h p q,
)
