use Rattle.std.proofs.Common.{arith}
use Rattle.serve_hub.proofs.Histories.{few_here}
use Rattle.serve_hub.proofs.ended.Ended.seats.Goals as goal

pub returns-clause-few_streams : goal.returns-clause-few_streams
returns-clause-few_streams c =
    let few = few_here c.self.inside.book.desk c.self.invariant.reached in
    omega (arith, few.0, c.self.invariant.each_stream, c.len.ensures, c.self.inside.streams.ok.0)

pub returns-clause-few_workers : goal.returns-clause-few_workers
returns-clause-few_workers c =
    let few = few_here c.self.inside.book.desk c.self.invariant.reached in omega (arith, few.1, c.workers.ensures)
