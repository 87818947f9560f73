-- The steps of a frame, in order.
use Rattle.std.proofs.Common.{ℕ, ◌≡◌, ◌+◌, ◌<◌, ◌≤◌, zero, suc, List, [], ◌∷◌, length, take, sum, get_or}
use Rattle.std.proofs.Common.{arith, refl, sym, ap, add-one, inl, inr}
use Rattle.std.specs.Int.{div_ceil}
use Rattle.std.proofs.lemmas.Bool.{cases_order}
use Rattle.std.proofs.lemmas.List.Sums.{sum_by_more}
use Rattle.filters.specs.declared.op.Op.{Op}
use Rattle.filters.specs.Ops.{image_height}
use Rattle.filters.specs.Chain.{ChainValue, Format, format_of, format_at, format_after, last_format}
use Rattle.frame_view.specs.declared.geometry.Geometry.{Geometry}
use Rattle.row_bands.specs.Bands.{band_count}
use Rattle.filters.specs.Steps.{band_counts, counts_of, IsStep}

pub length-band_counts : (ops : List Op) (h b : ℕ) → length (band_counts ops h b) ≡ length ops
length-band_counts [] h b = refl
length-band_counts (op ∷ ops) h b = ap suc (length-band_counts ops (image_height op h) b)

-- the bands of an operation are those of its output
pub count_at : (ops : List Op) (format : Format) (b i : ℕ) → i < length ops
    → get_or (band_counts ops format.height b) i 0 ≡ div_ceil (last_format (take (i + 1) ops) format).height b
count_at [] format b i h = absurd (omega arith)
count_at (op ∷ ops) format b zero h = refl
count_at (op ∷ ops) format b (suc i) h =
    let rest = count_at ops (format_after op format) b i (omega arith) in
    rw add-one (rw add-one at rest)

sum_at : (counts : List ℕ) (i : ℕ) → i < length counts
    → sum (take (i + 1) counts) ≡ sum (take i counts) + get_or counts i 0
sum_at counts i h = sum_by_more (λ n. n) counts i 0 h

sum_ordered : (counts : List ℕ) (i j : ℕ) → i ≤ j → j ≤ length counts
    → sum (take i counts) ≤ sum (take j counts)
sum_ordered counts i zero a b = let none : i ≡ 0 = omega arith in rw none (omega arith)
sum_ordered counts i (suc j) a b = elim (cases_order i (suc j)) [
  | inl same ↦ rw same (omega arith)
  | inr order ↦ elim order [
    | inl below ↦
        let next : sum (take (suc j) counts) ≡ sum (take j counts) + get_or counts j 0 =
        rw add-one at (sum_at counts j (omega arith)) in
        omega (arith, next, sum_ordered counts i j (omega arith) (omega arith))
    | inr above ↦ absurd (omega arith)
  ]
]

-- each band of an operation before that of a step comes before the step
pub step_after : (counts : List ℕ) (k op band i j : ℕ) → IsStep counts k op band → i < op
    → j < get_or counts i 0 → sum (take i counts) + j < k
step_after counts k op band i j s h l =
    omega (
      arith,
      sum_at counts i (omega (arith, s.of_chain)),
      sum_ordered counts (i + 1) op (omega arith)
          (omega (arith, s.of_chain)),
      s.number,
    )

-- a step is one band of one operation
pub one_step : (counts : List ℕ) (k op band i j : ℕ) → IsStep counts k op band → IsStep counts k i j
    → (i ≡ op) × (j ≡ band)
one_step counts k op band i j s t = elim (cases_order i op) [
  | inl same ↦
      (same, let there : sum (take op counts) + j ≡ k = rw same at t.number in omega (arith, there, s.number))
  | inr order ↦ elim order [
    | inl below ↦ absurd
        (let before = step_after counts k op band i j s below t.of_op in omega (arith, before, t.number))
    | inr above ↦ absurd
        (let before = step_after counts k i j op band t above s.of_op in omega (arith, before, s.number))
  ]
]

-- an operation has as many steps as its output has bands
pub count_of_output : (chain : ChainValue) (i : ℕ) (output : Geometry) → i < length (counts_of chain)
    → format_of output ≡ format_at chain (i + 1)
    → band_count output chain.band_height.rows ≡ get_or (counts_of chain) i 0
count_of_output chain i output h e =
    let within : i < length chain.ops = rw length-band_counts at h in
    let height : output.height ≡ (format_at chain (i + 1)).height = ap (λ format. format.height) e in
    rw height (sym (count_at chain.ops (format_of chain.geometry) chain.band_height.rows i within))

pub band_of : (chain : ChainValue) (k op band : ℕ) (output : Geometry) → IsStep (counts_of chain) k op band
    → format_of output ≡ format_at chain (op + 1)
    → band < band_count output chain.band_height.rows
band_of chain k op band output s e = rw (count_of_output chain op output s.of_chain e) s.of_op
