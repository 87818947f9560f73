use Rattle.std.proofs.Common.{◌≡◌, take}
use Rattle.serve_hub.proofs.chain_part.other_op.Given as goal

abbrev pub invariant-loop-i : goal.invariant-loop-i
invariant-loop-i l = take l.i l.fn.found ≡ take l.i l.fn.own
