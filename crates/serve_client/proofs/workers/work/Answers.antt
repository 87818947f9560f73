use Rattle.std.proofs.Common.{subst, sym}
use Rattle.serve_hub.specs.declared.refusal.Refusal.{Refusal}
use Rattle.serve_client.specs.Workers.{Works}
use Rattle.serve_client.proofs.Working.{first_lease, last_refused, next_at_once, next_later, next_never}
use Rattle.serve_client.proofs.workers.work.Goals as goal

pub loop-init : goal.loop-init
loop-init g c = first_lease c.args.seat c.lease.new.seat c.in-Ok.lease c.in-Ok.ensures.given c.in-Ok.ensures.unused

pub loop-preserved-in-Some-next : goal.loop-preserved-in-Some-next
loop-preserved-in-Some-next g c =
    let settled = c.in-Ok-settle_and_lease in
    next_at_once c.args.seat c.loop.seat c.settle_and_lease.new.seat c.loop.lease c.spend.new.lease c.in-Some-next.next
    _ _ c.loop.invariant c.spend.ensures settled.ensures.settled settled.ensures.unused c.in-Some-next.is

pub loop-preserved : goal.loop-preserved
loop-preserved g c =
    next_later c.args.seat c.loop.seat c.settle_and_lease.new.seat c.lease-in-None-next.new.seat c.loop.lease
    c.spend.new.lease c.in-Ok-lease.next _ _ c.loop.invariant c.spend.ensures
    c.in-Ok-settle_and_lease.ensures.settled c.in-None-next.is c.in-Ok-lease.ensures.given c.in-Ok-lease.ensures.unused

pub returns-in-Err-lease : goal.returns-in-Err-lease
returns-in-Err-lease g c =
    next_never c.args.seat c.loop.seat c.settle_and_lease.new.seat c.lease-in-None-next.new.seat c.loop.lease
    c.spend.new.lease _ _ _ c.loop.invariant c.spend.ensures c.in-Ok-settle_and_lease.ensures.settled c.in-None-next.is
    c.in-Err-lease.ensures.refused c.in-Err-lease.ensures.refusals c.in-Err-lease.ensures.waited

pub returns-in-Err-settle_and_lease : goal.returns-in-Err-settle_and_lease
returns-in-Err-settle_and_lease g c =
    subst (λ (e : Refusal). Works c.args.seat c.settle_and_lease.new.seat e) (sym c.drop_lease.ensures)
    (last_refused c.args.seat c.loop.seat c.settle_and_lease.new.seat c.loop.lease c.spend.new.lease
    c.in-Err-settle_and_lease.refused.refusal c.in-Err-settle_and_lease.refused.lease c.loop.invariant c.spend.ensures
    c.in-Err-settle_and_lease.ensures.refused c.in-Err-settle_and_lease.ensures.refusals)
