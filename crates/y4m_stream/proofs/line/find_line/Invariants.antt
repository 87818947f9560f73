use Rattle.std.proofs.Common.{◌≡◌, ◌-◌, length}
use Rattle.std.specs.Io.KnownBytes.{Keeps}
use Rattle.y4m_stream.specs.Inside.{rest_of}
use Rattle.y4m_stream.proofs.line.find_line.Given as goal

abbrev pub invariant-loop-end : goal.invariant-loop-end
invariant-loop-end g l = record {
  kept : Keeps (rest_of l.fn.input) (rest_of l.input);
  no_failure : l.input.failures ≡ l.fn.input.failures;
}

abbrev pub decreases-loop-end : goal.decreases-loop-end
decreases-loop-end g l = 1024 - length l.input.held
