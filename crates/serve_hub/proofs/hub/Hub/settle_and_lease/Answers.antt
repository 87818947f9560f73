use Rattle.std.proofs.Common.{◌≡◌, Err, IfOk, IfSome, Ok, OnErr, Option, Result, sym, subst}
use Rattle.std.specs.Result.{result_ok}
use Rattle.lease.specs.Lease.{LeaseValue}
use Rattle.serve_hub.specs.declared.entry.Settled.{Settled}
use Rattle.serve_hub.specs.declared.refusal.Refusal.{Refusal}
use Rattle.serve_hub.specs.Calls.{Leases, Settles, SettlesAndLeases}
use Rattle.serve_hub.specs.Seats.{WorkSeatValue}
use Rattle.serve_hub.proofs.hub.Hub.settle_and_lease.Goals as goal

-- a lease that is asked for behind a settlement
leases_next : (lease : LeaseValue) (done : Settled) (old mid new : WorkSeatValue) (answer : Result LeaseValue Refusal)
    → Settles lease done old mid → IfOk answer (λ next. Leases next mid new) → OnErr answer (new ≡ mid)
    → SettlesAndLeases lease done (result_ok answer) old new
leases_next lease done old mid new (Ok next) p q r = record { mid = mid; settles = p; leases = q }
leases_next lease done old mid new (Err e) p q r = record { mid = mid; settles = p; leases = r }

unused_next : (answer : Result LeaseValue Refusal) → IfOk answer (λ next. next.used ≡ 0)
    → IfSome (result_ok answer) (λ next. next.used ≡ 0)
unused_next (Ok next) p = p
unused_next (Err e) p = tt

pub returns-clause-settled : goal.returns-clause-settled
returns-clause-settled g c =
    subst (λ (next : Option LeaseValue). SettlesAndLeases c.args.lease c.in-Ok.settled next c.args.seat.now c.lease.new.self)
    (sym c.ok-next.ensures.value)
    (leases_next c.args.lease c.in-Ok.settled c.args.seat.now c.settle.new.self c.lease.new.self c.lease.result
    c.in-Ok.ensures.settled c.lease.ensures.given c.lease.ensures.refused)

pub returns-clause-unused : goal.returns-clause-unused
returns-clause-unused g c =
    subst (λ (next : Option LeaseValue). IfSome next (λ next. next.used ≡ 0)) (sym c.ok-next.ensures.value)
    (unused_next c.lease.result c.lease.ensures.unused)
