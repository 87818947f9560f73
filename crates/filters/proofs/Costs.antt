-- The costs of a frame's steps.
use Rattle.std.proofs.Common.{ℕ, ◌≡◌, ◌+◌, ◌-◌, ◌*◌, ◌<◌, ◌≤◌, zero, suc, List, [], ◌∷◌, ◌++◌, length, take}
use Rattle.std.proofs.Common.{drop, replicate, sum, get_or, slice_get, Some, arith, refl, sym, ap, ◌∙◌}
use Rattle.std.proofs.Common.{length-append}
use Rattle.std.specs.Int.{div_ceil}
use Rattle.std.proofs.Math.Nat.{mul-le-mul_left}
use Rattle.std.proofs.lemmas.List.{length-replicate, get_or-replicate, get_or-drop, drop-replicate}
use Rattle.std.proofs.lemmas.List.{drop-append-le}
use Rattle.std.proofs.lemmas.List.Sums.{sum_by-append, sum_by-cons, sum_by_more, sum_by-take-le}
use Rattle.std.proofs.lemmas.Option.{get_or_from_slice_get, slice_get-get_or}
use Rattle.std.proofs.Math.ListN.{get_or-append}
use Rattle.std.proofs.lemmas.List.Folds.{sum_by-replicate}
use Rattle.std.proofs.Math.Seq.{drop-append_seam, drop-append-add}
use Rattle.filters.specs.declared.chain.steps.StepRun.{StepRun}
use Rattle.filters.specs.declared.op.Op.{Op}
use Rattle.filters.specs.declared.op.Op.TheVariants.{Table, HFlip, VFlip, Crop, Blur}
use Rattle.frame_view.specs.declared.geometry.Geometry.{Geometry}
use Rattle.filters.specs.Ops.{HasGoodRadius, IsDoable, image_height, op_cost}
use Rattle.filters.specs.Chain.{ChainValue}
use Rattle.filters.specs.Steps.{band_counts, counts_of, IsStep}
use Rattle.filters.specs.Costs.{costs_by, step_costs, IsRun}
use Rattle.filters.proofs.ChainSteps.{one_step}

pub some_cost : (op : Op) → 1 ≤ op_cost op
some_cost (Table table) = omega arith
some_cost HFlip = omega arith
some_cost VFlip = omega arith
some_cost (Crop crop) = omega arith
some_cost (Blur blur) = omega arith

-- n steps of one cost, and the steps behind them
pub sum_of_run : (n cost : ℕ) (more : List ℕ) → sum (replicate n cost ++ more) ≡ n * cost + sum more
sum_of_run n cost more =
    sum_by-append (λ c. c) (replicate n cost) more ∙ ap (λ s. s + sum more) (sum_by-replicate (λ c. c) n cost)

-- each step has its cost
pub length-costs_by : (ops : List Op) (h b : ℕ) → length (costs_by ops h b) ≡ sum (band_counts ops h b)
length-costs_by [] h b = refl
length-costs_by (op ∷ ops) h b =
    let rest = length-costs_by ops (image_height op h) b in
    length-append (replicate (div_ceil (image_height op h) b) (op_cost op))
    (costs_by ops (image_height op h) b)
    ∙ ap (λ n. n + length (costs_by ops (image_height op h) b))
    (length-replicate (div_ceil (image_height op h) b) (op_cost op))
    ∙ ap (λ n. div_ceil (image_height op h) b + n) rest
    ∙ sym (sum_by-cons (λ n. n) (div_ceil (image_height op h) b) (band_counts ops (image_height op h) b))

-- a step costs at least one unit
pub steps_within : (ops : List Op) (h b : ℕ) → sum (band_counts ops h b) ≤ sum (costs_by ops h b)
steps_within [] h b = omega arith
steps_within (op ∷ ops) h b =
    let n = div_ceil (image_height op h) b in
    let rest = steps_within ops (image_height op h) b in
    let all = sum_by-cons (λ n. n) n (band_counts ops (image_height op h) b) in
    let costs = sum_of_run n (op_cost op) (costs_by ops (image_height op h) b) in
    let some : n * 1 ≤ n * op_cost op = mul-le-mul_left n (some_cost op) in
    omega (arith, rest, all, costs, some)

-- the costs left at a band of the first operation
first_run : (n cost band : ℕ) (more : List ℕ) → band < n
    → drop band (replicate n cost ++ more)
    ≡ replicate (n - band) cost ++ drop (band + (n - band)) (replicate n cost ++ more)
first_run n cost band more h =
    let fits : band ≤ length (replicate n cost) = omega (arith, length-replicate n cost) in
    let end : length (replicate n cost) ≡ band + (n - band) = omega (arith, length-replicate n cost) in
    drop-append-le band (replicate n cost) more fits
    ∙ ap (λ run. run ++ more) (drop-replicate band n cost)
    ∙ ap (λ rest. replicate (n - band) cost ++ rest)
    (sym (ap (λ m. drop m (replicate n cost ++ more)) (sym end) ∙ drop-append_seam (replicate n cost) more))

later_drop : (n cost k : ℕ) (more : List ℕ) → drop (n + k) (replicate n cost ++ more) ≡ drop k more
later_drop n cost k more =
    ap (λ m. drop (m + k) (replicate n cost ++ more)) (sym (length-replicate n cost))
    ∙ drop-append-add (replicate n cost) more k

-- the costs left at step k: those of the bands left of its operation, then those of the operations behind it
pub costs_left : (ops : List Op) (h b k i band : ℕ) (d : Op) → IsStep (band_counts ops h b) k i band
    → let left = get_or (band_counts ops h b) i 0 - band in
    drop k (costs_by ops h b)
    ≡ replicate left (op_cost (get_or ops i d)) ++ drop (k + left) (costs_by ops h b)
costs_left [] h b k i band d s = absurd (omega (arith, s.of_chain))
costs_left (op ∷ ops) h b k zero band d s =
    let at : k ≡ band = omega (arith, s.number) in
    rw at (first_run (div_ceil (image_height op h) b) (op_cost op) band (costs_by ops (image_height op h) b)
    s.of_op)
costs_left (op ∷ ops) h b k (suc i) band d s =
    let n = div_ceil (image_height op h) b in
    let cost = op_cost op in
    let counts = band_counts ops (image_height op h) b in
    let more = costs_by ops (image_height op h) b in
    let left = get_or counts i 0 - band in
    let here : k ≡ n + (sum (take i counts) + band) =
    omega (arith, s.number, sum_by-cons (λ m. m) n (take i counts)) in
    let behind : n + (sum (take i counts) + band) + left ≡ n + (sum (take i counts) + band + left) =
    omega arith in
    let step : IsStep counts (sum (take i counts) + band) i band =
    record { of_chain = omega (arith, s.of_chain); of_op = s.of_op; number = refl } in
    rw here
    (later_drop n cost (sum (take i counts) + band) more
    ∙ costs_left ops (image_height op h) b (sum (take i counts) + band) i band d step
    ∙ ap (λ rest. replicate left (op_cost (get_or ops i d)) ++ rest)
    (sym (ap (λ m. drop m (replicate n cost ++ more)) behind
    ∙ later_drop n cost (sum (take i counts) + band + left) more)))

-- an operation that can be done has a good radius
pub good_radius : (op : Op) (g : Geometry) → IsDoable op g → HasGoodRadius op
good_radius (Table table) g can = tt
good_radius HFlip g can = tt
good_radius VFlip g can = tt
good_radius (Crop crop) g can = tt
good_radius (Blur blur) g can = can

-- the steps left of an operation, of which there are `bands`
pub run_at : (chain : ChainValue) (k i band bands cost : ℕ) (op : Op) → IsStep (counts_of chain) k i band
    → bands ≡ get_or (counts_of chain) i 0
    → slice_get chain.ops i ≡ Some op → cost ≡ op_cost op
    → IsRun chain k (record { count = bands - band; cost = cost })
run_at chain k i band bands cost op s e is costs =
    let left : bands - band ≡ get_or (counts_of chain) i 0 - band = ap (λ n. n - band) e in
    let next : sum (take (i + 1) (counts_of chain))
    ≡ sum (take i (counts_of chain)) + get_or (counts_of chain) i 0 =
    sum_by_more (λ n. n) (counts_of chain) i 0 s.of_chain in
    let most = sum_by-take-le (λ n. n) (counts_of chain) (i + 1) in
    record {
      some = omega (arith, s.of_op);
      within = omega (arith, s.of_op, s.number, next, most);
      of_op = λ op' band' s'.
          let same = one_step (counts_of chain) k i band op' band' s s' in
          rw (same.0, same.1) (omega (arith, s.of_op));
      costs =
          let of_op : cost ≡ op_cost (get_or chain.ops i op) =
          costs ∙ ap op_cost (sym (get_or_from_slice_get chain.ops i op op is)) in
          rw (of_op, left) (costs_left chain.ops chain.geometry.height chain.band_height.rows k i band op s);
    }

-- the first step of a run has its cost
pub first_cost : (chain : ChainValue) (k : ℕ) (run : StepRun) → IsRun chain k run
    → slice_get (step_costs chain) k ≡ Some run.cost
first_cost chain k run is =
    let costs = step_costs chain in
    let rest = drop (k + run.count) costs in
    let some : 0 < run.count = omega (arith, is.some) in
    let within : k < length costs =
    omega (
      arith,
      is.some,
      is.within,
      length-costs_by chain.ops chain.geometry.height
          chain.band_height.rows,
    ) in
    let first : 0 < length (replicate run.count run.cost) =
    omega (arith, length-replicate run.count run.cost) in
    let same : k + 0 ≡ k = omega arith in
    let here : get_or costs k 0 ≡ run.cost =
    ap (λ i. get_or costs i 0) (sym same) ∙ sym (get_or-drop k costs 0 0)
    ∙ ap (λ left. get_or left 0 0) is.costs
    ∙ get_or-append (replicate run.count run.cost) rest 0 0 first
    ∙ get_or-replicate run.count 0 run.cost 0 some in
    slice_get-get_or costs k 0 within ∙ ap Some here
