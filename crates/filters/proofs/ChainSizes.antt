-- A part of a picture has no more data than the picture.
use Rattle.std.proofs.Common.{ℕ, ◌/◌, ◌≤◌, arith}
use Rattle.std.proofs.Math.Nat.{mul-le-mul}
use Rattle.y4m_header.specs.declared.chroma.Chroma.{Chroma}
use Rattle.y4m_header.specs.declared.chroma.Chroma.TheVariants.{S420, S422, S411, S444, S444Alpha, Mono}
use Rattle.y4m_header.specs.Chroma.{data_len}

pub smaller_data : (c : Chroma) (v w u h : ℕ) → v ≤ w → u ≤ h → data_len v u c ≤ data_len w h c
smaller_data S420 v w u h a b =
    omega (
      arith,
      mul-le-mul a b,
      mul-le-mul {n₁ = v / 2} {m₁ = u / 2} {n₂ = w / 2} {m₂ = h / 2} (omega arith)
          (omega arith),
    )
smaller_data S422 v w u h a b = omega (arith, mul-le-mul a b)
smaller_data S411 v w u h a b =
    omega (arith, mul-le-mul a b, mul-le-mul {n₁ = v / 4} {m₁ = u} {n₂ = w / 4} {m₂ = h} (omega arith) b)
smaller_data S444 v w u h a b = omega (arith, mul-le-mul a b)
smaller_data S444Alpha v w u h a b = omega (arith, mul-le-mul a b)
smaller_data Mono v w u h a b = mul-le-mul a b
