use Rattle.std.proofs.Common.{◌-◌, ◌≤◌, length, take}
use Rattle.std.specs.Io.KnownBytes.{Appends}
use Rattle.serve_report.proofs.control.backlog.write_lines.Given as goal

-- the text up to here is written
abbrev pub invariant-loop-from : goal.invariant-loop-from
invariant-loop-from g l = record {
  within : l.from ≤ length l.text;
  written : Appends (g.W.Write.contents l.initial.output) (g.W.Write.contents l.output) (take l.from l.text);
}

abbrev pub decreases-loop-from : goal.decreases-loop-from
decreases-loop-from g l = length l.text - l.from
