use Rattle.std.proofs.Common.{◌≡◌, IsSome}
use Rattle.std.specs.Arc.{arc_value}
use Rattle.lower_tests.proofs.tests.jobs.filtered.Given as goal

abbrev pub invariant-loop : goal.invariant-loop
invariant-loop g l = record {
  started : IsSome l.job.scratch;
  chain : l.job.chain ≡ arc_value l.spec;
}
