use Rattle.serve_hub.proofs.Giving.{refused}
use Rattle.serve_hub.proofs.hub.Hub.try_collect.Goals as goal

pub returns-clause-refused : goal.returns-clause-refused
returns-clause-refused g c =
    refused c.collect-answer.result c.compare.result c.args.seat.now c.collect-answer.new.self _ c.collect-answer.ensures.given
    c.collect-answer.ensures.keeps_frames c.collect-answer.ensures.refused c.compare.ensures.refused
