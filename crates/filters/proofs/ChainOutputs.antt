-- The outputs of the operations of a chain.
use Rattle.std.proofs.Common.{ℕ, ◌≡◌, ◌+◌, ◌*◌, ◌<◌, zero, suc, List, [], ◌∷◌, ◌++◌, length, take, drop, map}
use Rattle.std.proofs.Common.{sum, get_or, append_assoc, arith, refl, sym, ap, ◌∙◌, add-one}
use Rattle.std.specs.Int.{div_ceil}
use Rattle.std.proofs.Math.ListN.{get_or-map}
use Rattle.std.proofs.lemmas.List.{length-map, map-append, drop_more}
use Rattle.std.proofs.lemmas.List.Sums.{sum_by_more, sum_by-cons}
use Rattle.frame_view.specs.declared.geometry.Geometry.{Geometry}
use Rattle.filters.specs.declared.op.Op.{Op}
use Rattle.filters.specs.Chain.{Format, IsImageGeometry, format_of, format_after, last_format}
use Rattle.filters.specs.Ops.{image_height, op_cost}
use Rattle.filters.specs.Steps.{band_counts, step_count}
use Rattle.filters.specs.Costs.{costs_by}
use Rattle.filters.proofs.Costs.{sum_of_run}
use Rattle.filters.specs.ChainOutputs.{formats_after, AreOutputs, output_counts}

-- the steps from one operation on are its own and those of the operations behind it
pub steps_next : (ops : List Op) (i : ℕ) (d : Op) (g image : Geometry) (b : ℕ) → i < length ops
    → IsImageGeometry (get_or ops i d) g image
    → step_count (drop i ops) g.height b
    ≡ div_ceil image.height b + step_count (drop (i + 1) ops) image.height b
steps_next ops i d g image b h is =
    let high : image.height ≡ image_height (get_or ops i d) g.height =
    ap (λ format. format.height) is.format in
    ap (λ left. step_count left g.height b) (drop_more ops i d h)
    ∙ rw high
    (sum_by-cons (λ n. n) (div_ceil (image_height (get_or ops i d) g.height) b)
    (band_counts (drop (i + 1) ops) (image_height (get_or ops i d) g.height) b))

-- the same of their costs
pub costs_next : (ops : List Op) (i : ℕ) (d : Op) (g image : Geometry) (b : ℕ) → i < length ops
    → IsImageGeometry (get_or ops i d) g image
    → sum (costs_by (drop i ops) g.height b)
    ≡ div_ceil image.height b * op_cost (get_or ops i d) + sum (costs_by (drop (i + 1) ops) image.height b)
costs_next ops i d g image b h is =
    let high : image.height ≡ image_height (get_or ops i d) g.height =
    ap (λ format. format.height) is.format in
    ap (λ left. sum (costs_by left g.height b)) (drop_more ops i d h)
    ∙ rw high
    (sum_of_run (div_ceil (image_height (get_or ops i d) g.height) b) (op_cost (get_or ops i d))
    (costs_by (drop (i + 1) ops) (image_height (get_or ops i d) g.height) b))

pub outputs_next : (ops : List Op) (i : ℕ) (d : Op) (g image : Geometry) (outputs more : List Geometry)
    → i < length ops → IsImageGeometry (get_or ops i d) g image
    → more ≡ outputs ++ image ∷ []
    → map format_of more ++ formats_after (drop (i + 1) ops) (format_of image)
    ≡ map format_of outputs ++ formats_after (drop i ops) (format_of g)
outputs_next ops i d g image outputs more h is e =
    rw (e, map-append, append_assoc)
    (ap (λ left. map format_of outputs ++ left)
    (ap (λ format. format ∷ formats_after (drop (i + 1) ops) format) is.format
    ∙ ap (λ left. formats_after left (format_of g)) (sym (drop_more ops i d h))))

length-formats_after : (ops : List Op) (format : Format) → length (formats_after ops format) ≡ length ops
length-formats_after [] format = refl
length-formats_after (op ∷ ops) format = ap suc (length-formats_after ops (format_after op format))

get_or-formats_after : (ops : List Op) (format : Format) (i : ℕ) (d : Format) → i < length ops
    → get_or (formats_after ops format) i d ≡ last_format (take (suc i) ops) format
get_or-formats_after [] format i d h = absurd (omega arith)
get_or-formats_after (op ∷ ops) format zero d h = refl
get_or-formats_after (op ∷ ops) format (suc i) d h =
    get_or-formats_after ops (format_after op format) i d (omega arith)

pub length-outputs : (outputs : List Geometry) (ops : List Op) (g : Geometry) → AreOutputs ops g outputs
    → length outputs ≡ length ops
length-outputs outputs ops g e =
    sym (length-map outputs format_of) ∙ ap length e ∙ length-formats_after ops (format_of g)

pub output_at : (outputs : List Geometry) (ops : List Op) (g : Geometry) (i : ℕ) (output : Geometry)
    → AreOutputs ops g outputs
    → i < length ops → output ≡ get_or outputs i output
    → format_of output ≡ last_format (take (i + 1) ops) (format_of g)
output_at outputs ops g i output e h is =
    ap format_of is ∙ sym (get_or-map format_of outputs i output)
    ∙ ap (λ formats. get_or formats i (format_of output)) e
    ∙ rw add-one (get_or-formats_after ops (format_of g) i (format_of output) h)

counts-formats : (ops : List Op) (format : Format) (b : ℕ)
    → map (λ output. div_ceil output.height b) (formats_after ops format) ≡ band_counts ops format.height b
counts-formats [] format b = refl
counts-formats (op ∷ ops) format b =
    ap (λ counts. div_ceil (format_after op format).height b ∷ counts)
    (counts-formats ops (format_after op format) b)

counts-map : (outputs : List Geometry) (b : ℕ)
    → output_counts outputs b ≡ map (λ output. div_ceil output.height b) (map format_of outputs)
counts-map [] b = refl
counts-map (output ∷ outputs) b = ap (λ counts. div_ceil output.height b ∷ counts) (counts-map outputs b)

pub output_counts-are : (outputs : List Geometry) (ops : List Op) (g : Geometry) (b : ℕ)
    → AreOutputs ops g outputs → output_counts outputs b ≡ band_counts ops g.height b
output_counts-are outputs ops g b e =
    counts-map outputs b ∙ ap (map (λ (output : Format). div_ceil output.height b)) e
    ∙ counts-formats ops (format_of g) b

-- the bands of one output more
pub sum_more : (outputs : List Geometry) (b i : ℕ) (g : Geometry) → i < length outputs
    → g ≡ get_or outputs i g
    → sum (take (i + 1) (output_counts outputs b))
    ≡ sum (take i (output_counts outputs b)) + div_ceil g.height b
sum_more outputs b i g h is =
    let count = λ (output : Geometry). div_ceil output.height b in
    sum_by_more (λ n. n) (map count outputs) i (count g) (rw length-map h)
    ∙ ap (λ n. sum (take i (map count outputs)) + n) (get_or-map count outputs i g ∙ ap count (sym is))
