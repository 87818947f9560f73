use Rattle.std.proofs.Common.{AllPairs, take}
use Rattle.serve_report.specs.Apart.{IsApart}
use Rattle.serve_report.proofs.serve.apart.first_clash.Given as goal

-- no two of those that were looked at clash
abbrev pub invariant-loop-i : goal.invariant-loop-i
invariant-loop-i l = AllPairs IsApart (take l.i l.uses)
