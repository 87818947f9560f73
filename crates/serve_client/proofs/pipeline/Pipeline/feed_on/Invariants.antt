use Rattle.std.proofs.Common.{None}
use Rattle.serve_client.specs.Pipelines.{HasFed, PassesOn}
use Rattle.serve_client.proofs.pipeline.Pipeline.feed_on.Given as goal

abbrev pub invariant-loop : goal.invariant-loop
invariant-loop g l = record {
  passed : PassesOn l.initial.self l.self;
  kept : HasFed (g.K.Clock.gives l.fn.post.clock.now) None l.initial.self l.self;
}
