use Rattle.std.proofs.Common.{◌≡◌}
use Rattle.serve_hub.specs.Retired.{renumbered}
use Rattle.serve_hub.proofs.Retiring.{changed_first}
use Rattle.serve_hub.proofs.ended.keep_staying.Given as goal

abbrev pub invariant-loop-i : goal.invariant-loop-i
invariant-loop-i l = l.rests.items ≡ changed_first (renumbered l.fn.desk) l.i l.initial.rests.items
