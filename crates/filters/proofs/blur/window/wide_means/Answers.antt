use Rattle.std.proofs.Common.{◌≡◌, ℕ, ◌+◌, ◌*◌, ◌/◌, ◌∙◌, slice_index, arith, ap}
use Rattle.filters.specs.Blur.{sum_below}
use Rattle.filters.proofs.BlurSums.{mean_fits, sum_of_bytes, sum_of_groups, written_more}
use Rattle.filters.proofs.blur.window.wide_means.Goals as goal

pub overflow_add-sum : goal.overflow_add-sum
overflow_add-sum g c =
    let x = c.loop-x.x in
    let column : ℕ → ℕ = λ k. slice_index c.args.columns.now k in
    let whole =
    sum_of_groups column (λ k. slice_index c.args.fours.now k) x g.row.SIDE g.row.FOURS g.row.REST
    c.requires.parts (λ k h. c.requires.fours.sums (x + 4 * k) (omega arith)) in
    let most = sum_of_bytes column x g.row.SIDE (λ j h. c.requires.squares.bytes (x + j) (omega arith)) in
    let fits =
    mean_fits (sum_below (λ j. column (x + j)) g.row.SIDE) g.row.SIDE (omega arith) c.requires.small_side most in
    omega arith

pub mean-requires-clause-bytes : goal.mean-requires-clause-bytes
mean-requires-clause-bytes g c =
    let x = c.loop-x.x in
    let column : ℕ → ℕ = λ k. slice_index c.args.columns.now k in
    let whole =
    sum_of_groups column (λ k. slice_index c.args.fours.now k) x g.row.SIDE g.row.FOURS g.row.REST
    c.requires.parts (λ k h. c.requires.fours.sums (x + 4 * k) (omega arith)) in
    let most = sum_of_bytes column x g.row.SIDE (λ j h. c.requires.squares.bytes (x + j) (omega arith)) in
    omega arith

pub loop-x-preserved : goal.loop-x-preserved
loop-x-preserved g c =
    let x = c.loop-x.x in
    let column : ℕ → ℕ = λ k. slice_index c.args.columns.now k in
    let side = g.row.SIDE in
    let n = side * side in
    let whole =
    sum_of_groups column (λ k. slice_index c.args.fours.now k) x side g.row.FOURS g.row.REST
    c.requires.parts (λ k h. c.requires.fours.sums (x + 4 * k) (omega arith)) in
    let total : c.fours_sum.result + c.columns_sum.result ≡ sum_below (λ j. column (x + j)) side =
    omega arith in
    written_more (λ k. (sum_below (λ j. column (k + j)) side + n / 2) / n)
    _ x _ (omega arith) (c.mean.ensures ∙ ap (λ s. (s + n / 2) / n) total) c.loop-x.invariant
