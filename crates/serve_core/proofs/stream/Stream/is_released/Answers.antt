use Rattle.std.proofs.Common.{rules}
use Rattle.serve_core.proofs.stream.Stream.is_released.Goals as goal

pub returns-then-finished-self : goal.returns-then-finished-self
returns-then-finished-self c = search rules
