use Rattle.std.proofs.Common.{arith, rules}
use Rattle.std.proofs.lemmas.Grind.{common_steps}
use Rattle.serve_core.proofs.Items.Lists.{slice_get_here}
use Rattle.serve_hub.proofs.Seating.{one_more_rest}
use Rattle.serve_hub.proofs.hub.rests_of.Goals as goal

pub loop-s-preserved : goal.loop-s-preserved
loop-s-preserved c =
    let streams = c.args.streams.now in
    let s = c.loop-s.s in
    let x = c.index-streams-s.result in
    let more = one_more_rest streams s x (slice_get_here streams s x (omega arith) c.index-streams-s.is) in
    search (rules, common_steps)
