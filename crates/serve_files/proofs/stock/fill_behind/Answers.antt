use Rattle.std.proofs.Common.{arith, sym}
use Rattle.serve_files.proofs.TakenAhead.{held_length, slice_filled}
use Rattle.serve_files.proofs.stock.fill_behind.Goals as goal

pub returns-clause-bytes : goal.returns-clause-bytes
returns-clause-bytes g c =
    slice_filled _ _ c.read.result _ c.move_to_front.new.bytes c.read.new.buf _ _
    (sym (held_length c.args.bytes.now c.args.from c.args.to c.requires.order c.requires.within)) c.move_to_front.ensures (omega arith)
    (omega arith) c.read.ensures.bound c.read.ensures.bytes
