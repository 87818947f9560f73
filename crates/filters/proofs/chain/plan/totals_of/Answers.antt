use Rattle.std.proofs.Common.{◌≡◌, ◌*◌, ◌≤◌, arith, refl, ap, ◌∙◌}
use Rattle.std.proofs.Math.Nat.{mul-le-mul}
use Rattle.std.specs.Int.{div_ceil}
use Rattle.filters.proofs.ChainDoable.{doable_next, doable_before}
use Rattle.filters.proofs.ChainOutputs.{steps_next, costs_next}
use Rattle.filters.proofs.Costs.{good_radius}
use Rattle.filters.proofs.chain.plan.totals_of.Goals as goal

pub cost-requires : goal.cost-requires
cost-requires c = good_radius _ _ (c.if-not-is_doable.ensures.0 refl)

pub overflow_mul-cost : goal.overflow_mul-cost
overflow_mul-cost c =
    let few : c.count-bands.result * c.cost.result ≤ 8192 * 9 =
    mul-le-mul c.count-bands.ensures.within.1 c.cost.ensures.within_limit in omega (arith, few)

pub loop-op-preserved : goal.loop-op-preserved
loop-op-preserved c =
    let h = c.loop-op-test.true in
    let image = c.output_of-reached.ensures in
    let so_far = c.loop-op.invariant in
    let bands : c.count-bands.result ≡ div_ceil c.output_of-reached.result.height c.args.band_height.rows =
    c.count-bands.ensures.value ∙ rw (c.new.ensures.geometry, c.new.ensures.height) refl in
    let few : c.count-bands.result * c.cost.result ≤ 8192 * 9 =
    mul-le-mul c.count-bands.ensures.within.1 c.cost.ensures.within_limit in
    record {
      doable = (
        λ all. doable_next _ _ _ _ _ h image (so_far.doable.0 all),
        λ rest. so_far.doable.1 (doable_before _ _ _ _ _ h (c.if-not-is_doable.ensures.0 refl) image rest),
      );
      steps = let next = steps_next _ _ _ _ _ c.args.band_height.rows h image in omega (arith, next);
      cost =
          let next = costs_next _ _ _ _ _ c.args.band_height.rows h image in
          let by_bands = ap (λ n. n * c.cost.result) bands in
          let by_cost = ap (λ n. div_ceil c.output_of-reached.result.height c.args.band_height.rows * n)
          c.cost.ensures.value in
          omega (arith, next, by_bands, by_cost);
      some = omega arith;
      few = omega arith;
      cheap = omega (arith, few);
    }
