use Rattle.std.proofs.Common.{arith}
use Rattle.filters.specs.Blur.{clamped, pixel_of}
use Rattle.filters.proofs.BlurSums.{sum_below_four}
use Rattle.filters.proofs.blur.columns.first_groups.Goals as goal

pub loop-g-preserved : goal.loop-g-preserved
loop-g-preserved c =
    let plane = c.args.plane.now in record {
      sums = λ x h.
          let added = c.add_rows.ensures x (omega arith) in
          let so_far = c.loop-g.invariant.sums x h in
          let first = c.row_near-first.ensures.samples x h in
          let second = c.row_near-second.ensures.samples x h in
          let third = c.row_near-third.ensures.samples x h in
          let fourth = c.row_near-fourth.ensures.samples x h in
          let more =
          sum_below_four
          (λ i. pixel_of plane.samples.now plane.width (clamped plane.height plane.radius c.args.y i) x)
          c.loop-g.g in
          omega arith;
      bytes = λ x h.
          let added = c.add_rows.ensures x (omega arith) in
          let so_far = c.loop-g.invariant.bytes x h in
          let first = c.row_near-first.ensures.bytes x in
          let second = c.row_near-second.ensures.bytes x in
          let third = c.row_near-third.ensures.bytes x in
          let fourth = c.row_near-fourth.ensures.bytes x in
          omega arith;
    }
