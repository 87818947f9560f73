use Rattle.std.proofs.Common.{◌≡◌, take}
use Rattle.lease.proofs.job_spec.are_same_ops.Given as goal

abbrev pub invariant-loop-i : goal.invariant-loop-i
invariant-loop-i l = take l.i l.fn.one ≡ take l.i l.fn.other
