use Rattle.std.proofs.Common.{arith}
use Rattle.filters.specs.Blur.{clamped, pixel_of}
use Rattle.filters.proofs.BlurSums.{sum_below_more}
use Rattle.filters.proofs.blur.columns.first_columns.Goals as goal

pub loop-i-preserved : goal.loop-i-preserved
loop-i-preserved c =
    let plane = c.args.plane.now in record {
      sums = λ x h.
          let added = c.add_row.ensures x (omega arith) in
          let so_far = c.loop-i.invariant.sums x h in
          let read = c.row_near.ensures.samples x h in
          let more =
          sum_below_more
          (λ i. pixel_of plane.samples.now plane.width (clamped plane.height plane.radius c.args.y i) x)
          c.loop-i.i in
          omega arith;
      bytes = λ x h.
          let added = c.add_row.ensures x (omega arith) in
          let so_far = c.loop-i.invariant.bytes x h in
          let byte = c.row_near.ensures.bytes x in
          omega arith;
    }
