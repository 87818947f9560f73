use Rattle.std.proofs.Common.{rules}
use Rattle.serve_core.proofs.stream.Stream.collect_refusal.Goals as goal

pub returns-then-accepted-finished-clause-refused : goal.returns-then-accepted-finished-clause-refused
returns-then-accepted-finished-clause-refused c = search rules fits 200
