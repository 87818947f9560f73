use Rattle.std.proofs.Common.{rules}
use Rattle.serve_core.proofs.stream.Stream.ready_deadline.Goals as goal

pub returns-then-fits : goal.returns-then-fits
returns-then-fits c = search rules fits 200
