use Rattle.std.proofs.Common.{refl}
use Rattle.serve_client.specs.Rests.{rest_stop}
use Rattle.serve_client.proofs.Allowing.{fault_kept, fault_same}
use Rattle.serve_client.proofs.Sized.{header_stays}
use Rattle.serve_client.proofs.Tallying.{KeepsMoments-same, KeepsMoments-trans}
use Rattle.serve_client.proofs.clients.client.Goals as goal

pub loop-init : goal.loop-init
loop-init g c = record {
  header = c.requires.header;
  is_rest = c.requires.rest;
  stands = λ start past at. at;
  moments = KeepsMoments-same (g.K.Clock.gives c.args.clock.now) _ _ refl;
  stop = λ allowed. allowed;
  fault = fault_same (rest_stop c.args.rest);
}

pub go_on-requires : goal.go_on-requires
go_on-requires g c = record { header = c.loop.invariant.header; rest = c.loop.invariant.is_rest }

pub loop-preserved : goal.loop-preserved
loop-preserved g c =
    let inv = c.loop.invariant in
    let is = inv.is_rest in
    let after = c.in-Paused.ensures.turn is.0 is.1 is.2 in
    record {
      header = header_stays is.0 is.1 is.1 c.loop.seat c.in-Paused.next_seat c.loop.rest c.in-Paused.next_rest is.2 after inv.header;
      is_rest = (is.0, is.1, after);
      stands = λ start past at. c.in-Paused.ensures.turn start past (inv.stands start past at);
      moments = KeepsMoments-trans (g.K.Clock.gives c.args.clock.now) _ _ _ inv.moments c.in-Paused.ensures.moments;
      stop = λ allowed. c.in-Paused.ensures.stop (inv.stop allowed);
      fault = fault_kept _ _ _ inv.fault c.in-Paused.ensures.fault;
    }

pub returns-in-Ended-clause-turn : goal.returns-in-Ended-clause-turn
returns-in-Ended-clause-turn g c = λ start past at. c.in-Ended.ensures.turn start past (c.loop.invariant.stands start past at)

pub returns-then-is_full-clause-turn : goal.returns-then-is_full-clause-turn
returns-then-is_full-clause-turn g c = λ start past at. c.in-Paused.ensures.turn start past (c.loop.invariant.stands start past at)

pub returns-then-is_full-clause-moments : goal.returns-then-is_full-clause-moments
returns-then-is_full-clause-moments g c =
    KeepsMoments-trans (g.K.Clock.gives c.args.clock.now) _ _ _ c.loop.invariant.moments c.in-Paused.ensures.moments

pub returns-in-Ended-clause-moments : goal.returns-in-Ended-clause-moments
returns-in-Ended-clause-moments g c =
    KeepsMoments-trans (g.K.Clock.gives c.args.clock.now) _ _ _ c.loop.invariant.moments c.in-Ended.ensures.moments

pub returns-then-is_full-clause-full : goal.returns-then-is_full-clause-full
returns-then-is_full-clause-full g c = c.is_full.ensures.0 c.if-is_full.true

pub returns-in-Ended-clause-fault : goal.returns-in-Ended-clause-fault
returns-in-Ended-clause-fault g c = fault_kept _ _ _ c.loop.invariant.fault c.in-Ended.ensures.fault

pub returns-then-is_full-clause-fault : goal.returns-then-is_full-clause-fault
returns-then-is_full-clause-fault g c = fault_kept _ _ _ c.loop.invariant.fault c.in-Paused.ensures.fault
