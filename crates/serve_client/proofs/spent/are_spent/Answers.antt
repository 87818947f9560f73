use Rattle.serve_client.proofs.SpentLeases.{then_leased, then_settled}
use Rattle.serve_client.proofs.spent.are_spent.Goals.{in-None-Leased, in-Some-Settled}
use Rattle.serve_client.proofs.spent.are_spent.Goals as goal

pub loop-call-preserved : goal.loop-call-preserved
loop-call-preserved c = elim c.match-grant.branch [
  | in-None-Leased w ↦
      then_leased c.args.calls.now c.loop-call.call-index _ c.loop-call.grant c.match-grant.grant c.loop-call-test.true
      c.loop-call.invariant _ _ _ w.in-None-Leased.is-0 w.in-None-Leased.is-1 w.grant-is
  | in-Some-Settled w ↦
      then_settled c.args.calls.now c.loop-call.call-index _ c.loop-call.grant c.match-grant.grant c.loop-call-test.true
      c.loop-call.invariant _ _ _ w.in-Some-Settled.is-0 w.in-Some-Settled.is-1 w.if-done-bands.true w.grant-is
]
