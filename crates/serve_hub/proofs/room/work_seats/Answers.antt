use Rattle.std.proofs.Common.{rules}
use Rattle.std.proofs.lemmas.Grind.{common_steps}
use Rattle.std.proofs.lemmas.List.FromFn.{map-range_with_len_more}
use Rattle.serve_hub.specs.Seats.{opened_worker}
use Rattle.serve_hub.proofs.room.work_seats.Goals as goal

pub loop-w-preserved : goal.loop-w-preserved
loop-w-preserved g c =
    let more = map-range_with_len_more (opened_worker c.args.limit) 0 c.loop-w.w c.loop-w.w (search rules) in
    search (rules, common_steps)
