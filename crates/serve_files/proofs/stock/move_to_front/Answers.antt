use Rattle.y4m_stream.proofs.Known.{take-moved}
use Rattle.serve_files.proofs.stock.move_to_front.Goals as goal

pub returns : goal.returns
returns c =
    rw c.copy_within.ensures.after (take-moved c.args.bytes.now c.args.from c.args.to c.requires.order c.requires.within)
