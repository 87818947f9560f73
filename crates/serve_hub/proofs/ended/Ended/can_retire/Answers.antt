use Rattle.std.proofs.Common.{arith}
use Rattle.serve_hub.proofs.Histories.{few_here}
use Rattle.serve_hub.proofs.ended.Ended.can_retire.Goals as goal

pub overflow_cast-len : goal.overflow_cast-len
overflow_cast-len c =
    let few = few_here c.self.inside.book.desk c.self.invariant.reached in
    omega (arith, few.0, c.self.invariant.each_stream, c.len.ensures, c.self.inside.streams.ok.0)
