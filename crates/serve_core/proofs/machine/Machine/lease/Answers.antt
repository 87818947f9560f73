use Rattle.std.proofs.Common.{sym, subst, ap}
use Rattle.filters.specs.ChainImage.{FrameValue}
use Rattle.serve_core.specs.Events.{Lease, Reply}
use Rattle.serve_core.specs.Seen.{heard}
use Rattle.serve_core.proofs.Calls.Machines.{Goes, allowed_of, lease_not, lending_goes, state_of}
use Rattle.serve_core.proofs.machine.Machine.lease.Goals as goal
use Rattle.serve_core.proofs.machine.Machine.lease.Goals.{in-Ok, in-Err}

went : (c : goal.Joined-lease)
    → Goes c.self.inside.schedule c.lease.new.self (Lease c.args.w) (heard c.match-lease.result)
went c =
    let old = c.self.inside.schedule in
    let new = c.lease.new.self in
    let is_reply = λ (r : Reply FrameValue FrameValue). Goes old new (Lease c.args.w) r in
    elim c.match-lease.branch [
      | in-Ok w ↦ subst is_reply (sym (ap heard w.result-is))
          (lending_goes old new c.args.w w.in-Ok.held c.self.invariant w.in-Ok.ensures.ok.0 w.in-Ok.ensures.ok.1)
      | in-Err w ↦ subst is_reply (sym (ap heard w.result-is))
          (lease_not old new c.args.w w.in-Err.refusal c.self.invariant w.in-Err.ensures.err)
    ]

pub returns-clause-allowed : goal.returns-clause-allowed
returns-clause-allowed c = allowed_of (went c) c.self.view_is

pub returns-clause-state : goal.returns-clause-state
returns-clause-state c = state_of (went c) c.self.view_is

pub invariant_of-self : goal.invariant_of-self
invariant_of-self c = (went c).kept
