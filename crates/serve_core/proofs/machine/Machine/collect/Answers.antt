use Rattle.std.proofs.Common.{sym, subst, ap}
use Rattle.filters.specs.ChainImage.{FrameValue}
use Rattle.serve_core.specs.Events.{Collect, Reply}
use Rattle.serve_core.specs.Seen.{heard}
use Rattle.serve_core.proofs.Calls.Machines.{Goes, allowed_of, collect_goes, collect_not, state_of}
use Rattle.serve_core.proofs.machine.Machine.collect.Goals as goal
use Rattle.serve_core.proofs.machine.Machine.collect.Goals.{in-Ok, in-Err}

went : (c : goal.Joined-collect)
    → Goes c.self.inside.schedule c.collect.new.self (Collect c.args.s) (heard c.match-collect.result)
went c =
    let old = c.self.inside.schedule in
    let new = c.collect.new.self in
    let is_reply = λ (r : Reply FrameValue FrameValue). Goes old new (Collect c.args.s) r in
    elim c.match-collect.branch [
      | in-Ok w ↦ subst is_reply (sym (ap heard w.result-is))
          (collect_goes old new c.args.s w.in-Ok.pair c.self.invariant w.in-Ok.ensures.ok)
      | in-Err w ↦ subst is_reply (sym (ap heard w.result-is))
          (collect_not old new c.args.s w.in-Err.refusal c.self.invariant w.in-Err.ensures.err)
    ]

pub returns-clause-allowed : goal.returns-clause-allowed
returns-clause-allowed c = allowed_of (went c) c.self.view_is

pub returns-clause-state : goal.returns-clause-state
returns-clause-state c = state_of (went c) c.self.view_is

pub invariant_of-self : goal.invariant_of-self
invariant_of-self c = (went c).kept
