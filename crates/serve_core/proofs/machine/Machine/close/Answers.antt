use Rattle.std.proofs.Common.{sym, subst, ap}
use Rattle.filters.specs.ChainImage.{FrameValue}
use Rattle.serve_core.specs.Events.{Close, Reply}
use Rattle.serve_core.specs.Seen.{heard}
use Rattle.serve_core.proofs.Calls.Machines.{Goes, allowed_of, close_goes, close_not, state_of}
use Rattle.serve_core.proofs.machine.Machine.close.Goals as goal
use Rattle.serve_core.proofs.machine.Machine.close.Goals.{in-Ok, in-Err}

went : (c : goal.Joined-close)
    → Goes c.self.inside.schedule c.close.new.self (Close c.args.s) (heard c.match-close.result)
went c =
    let old = c.self.inside.schedule in
    let new = c.close.new.self in
    let is_reply = λ (r : Reply FrameValue FrameValue). Goes old new (Close c.args.s) r in
    elim c.match-close.branch [
      | in-Ok w ↦ subst is_reply (sym (ap heard w.result-is))
          (close_goes old new c.args.s c.self.invariant w.in-Ok.ensures.ok)
      | in-Err w ↦ subst is_reply (sym (ap heard w.result-is))
          (close_not old new c.args.s w.in-Err.refusal c.self.invariant w.in-Err.ensures.err)
    ]

pub returns-clause-allowed : goal.returns-clause-allowed
returns-clause-allowed c = allowed_of (went c) c.self.view_is

pub returns-clause-state : goal.returns-clause-state
returns-clause-state c = state_of (went c) c.self.view_is

pub invariant_of-self : goal.invariant_of-self
invariant_of-self c = (went c).kept
