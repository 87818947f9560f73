use Rattle.std.proofs.Common.{◌≡◌, ◌+◌, ◌≤◌, length}
use Rattle.std.specs.Option.{option_copied, option_map_or, option_map}
use Rattle.filters.specs.OpsText.{ops_of}
use Rattle.filters.proofs.OpsLeft.{ops_left}
use Rattle.filters.proofs.ops_text.count_ops.Given as goal

abbrev pub invariant-loop-rest : goal.invariant-loop-rest
invariant-loop-rest l = record {
  is : option_map length (ops_of l.fn.text)
      ≡ option_map (λ ops. l.count + length ops) (ops_left (option_copied l.rest));
  few : l.count + option_map_or (λ rest. length rest.now) l.rest 0 ≤ length l.fn.text + 1;
}

abbrev pub decreases-loop-rest : goal.decreases-loop-rest
decreases-loop-rest l = option_map_or (λ rest. length rest.now + 1) l.rest 0
