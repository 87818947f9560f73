use Rattle.std.proofs.Common.{◌≡◌, ◌-◌, ◌≤◌, length, take}
use Rattle.std.specs.Io.KnownBytes.{Consumes}
use Rattle.y4m_stream.proofs.data.fill_exactly.Given as goal

abbrev pub invariant-loop-at : goal.invariant-loop-at
invariant-loop-at g l = record {
  within : l.at ≤ length l.out;
  filled : Consumes (g.R.Source.remaining l.fn.source) (g.R.Source.remaining l.source) (take l.at l.out);
  counted : g.R.Source.failures l.source ≡ g.R.Source.failures l.fn.source;
}

abbrev pub decreases-loop-at : goal.decreases-loop-at
decreases-loop-at g l = length l.out - l.at
