use Rattle.std.proofs.Common.{◌<◌, ap, arith, length}
use Rattle.serve_hub.proofs.Loads.{counts_more, one_unless}
use Rattle.serve_hub.proofs.hub_load.count_not_over.Goals.{then-not-is_over, else-not-is_over}
use Rattle.serve_hub.proofs.hub_load.count_not_over.Goals as goal

pub loop-stream-preserved : goal.loop-stream-preserved
loop-stream-preserved c =
    let so_far = c.loop-stream.invariant in
    let less : c.loop-stream.stream < length c.args.desk.now.streams =
    omega (arith, c.loop-stream-test.true, c.streams-stream-end.ensures) in
    let more = counts_more c.args.desk.now.streams c.loop-stream.stream c.is_over.result less
    c.is_over.ensures in
    elim c.if-not-is_over.branch [
      | then-not-is_over w ↦ record {
        sum = omega (arith, w.count-is, so_far.sum, more, ap one_unless w.if-not-is_over.true);
        few = omega (arith, w.count-is, so_far.few);
      }
      | else-not-is_over w ↦ record {
        sum = omega (arith, w.count-is, so_far.sum, more, ap one_unless w.if-not-is_over.false);
        few = omega (arith, w.count-is, so_far.few);
      }
    ]
