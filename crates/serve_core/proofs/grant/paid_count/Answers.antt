use Rattle.std.proofs.Common.{◌+◌, min, ◌/◌, drop, sym, ◌∙◌, ap, arith}
use Rattle.filters.specs.Costs.{step_costs}
use Rattle.serve_core.specs.Grants.{paid_count}
use Rattle.serve_core.proofs.Bands.Paying.{paid_past, turn_all, turn_some}
use Rattle.serve_core.proofs.grant.paid_count.Goals as goal

pub returns-then-fitting-count : goal.returns-then-fitting-count
returns-then-fitting-count c =
    let run = c.run_of_step-run in
    let k = c.min-fitting.result in
    let costs = step_costs c.args.chain.now in
    let fitting = c.min-fitting.ensures ∙ ap (λ n. min n (c.loop-k.budget / run.result.cost)) c.min.ensures in
    let turn = ap (paid_count c.loop-k.most c.loop-k.budget) run.ensures.run.costs
    ∙ turn_some run.result.count run.result.cost c.loop-k.most c.loop-k.budget k
    (drop (c.loop-k.k + run.result.count) costs) run.ensures.positive_cost fitting (omega arith) in
    sym (c.loop-k.invariant.paid ∙ ap (λ n. c.loop-k.paid + n) turn)

pub loop-k-preserved : goal.loop-k-preserved
loop-k-preserved c =
    let run = c.run_of_step-run in
    let k = c.min-fitting.result in
    let costs = step_costs c.args.chain.now in
    let fitting = c.min-fitting.ensures ∙ ap (λ n. min n (c.loop-k.budget / run.result.cost)) c.min.ensures in
    let turn = ap (paid_count c.loop-k.most c.loop-k.budget) run.ensures.run.costs
    ∙ turn_all run.result.count run.result.cost c.loop-k.most c.loop-k.budget k
    (drop (c.loop-k.k + run.result.count) costs) fitting (omega arith) in
    record {
      within = run.ensures.run.within;
      most = omega (arith, c.loop-k.invariant.most, fitting);
      paid = omega (arith, c.loop-k.invariant.paid, turn);
    }

pub returns : goal.returns
returns c =
    let past = paid_past c.loop-k.most c.loop-k.budget c.loop-k.k (step_costs c.args.chain.now)
    (omega (arith, c.steps.ensures.costs)) in
    omega (arith, c.loop-k.invariant.paid, past)
