use Rattle.std.proofs.Common.{rules}
use Rattle.serve_core.proofs.stream.Stream.hold.Goals as goal

pub returns-then-is_released : goal.returns-then-is_released
returns-then-is_released c = search rules fits 200

pub returns : goal.returns
returns c = search rules fits 200

pub unreachable-requires : goal.unreachable-requires
unreachable-requires c = search rules fits 200
