use Rattle.std.proofs.Common.{◌≡◌, ◌+◌, take, sum}
use Rattle.filters.specs.ChainOutputs.{output_counts}
use Rattle.filters.proofs.chain.plan.op_of_step.Given as goal

abbrev pub invariant-loop-op : goal.invariant-loop-op
invariant-loop-op l = sum (take l.op (output_counts l.outputs l.band_height.rows)) + l.band ≡ l.fn.k
