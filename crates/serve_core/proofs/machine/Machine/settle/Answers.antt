use Rattle.std.proofs.Common.{sym, subst, ap}
use Rattle.filters.specs.ChainImage.{FrameValue}
use Rattle.serve_core.specs.Events.{Reply, Settle}
use Rattle.serve_core.specs.Seen.{heard}
use Rattle.serve_core.proofs.Calls.Machines.{Goes, allowed_of, can_settle, finished_goes, returned_goes, state_of}
use Rattle.serve_core.proofs.Events.Changes.{after_refused}
use Rattle.serve_core.proofs.machine.Machine.settle.Goals as goal
use Rattle.serve_core.proofs.machine.Machine.settle.Goals.{in-None, in-Some}

went : (c : goal.Joined-settle)
    → Goes c.self.inside.schedule c.settle.new.self (Settle c.args.w) (heard c.match-settle.result)
went c =
    let old = c.self.inside.schedule in
    let new = c.settle.new.self in
    let held = c.in-Ok.held in
    let mine = c.in-Ok.ensures.ok in
    let is_reply = λ (r : Reply FrameValue FrameValue). Goes old new (Settle c.args.w) r in
    elim c.match-settle.branch [
      | in-None w ↦ subst is_reply (sym (ap heard w.result-is))
          (returned_goes old new c.args.w held c.self.invariant mine w.in-None.ensures.requeued)
      | in-Some w ↦ subst is_reply (sym (ap heard w.result-is))
          (finished_goes old new c.args.w w.in-Some.number held c.self.invariant mine
          w.in-Some.ensures.finished)
    ]

pub settle-requires-clause-stream : goal.settle-requires-clause-stream
settle-requires-clause-stream c =
    can_settle c.self.inside.schedule c.args.w c.in-Ok.held c.self.invariant c.in-Ok.ensures.ok

pub returns-in-Err-clause-state : goal.returns-in-Err-clause-state
returns-in-Err-clause-state c = after_refused FrameValue c.args.self.now (Settle c.args.w) c.in-Err.refusal

pub returns-after-settle-clause-allowed : goal.returns-after-settle-clause-allowed
returns-after-settle-clause-allowed c = allowed_of (went c) c.self.view_is

pub returns-after-settle-clause-state : goal.returns-after-settle-clause-state
returns-after-settle-clause-state c = state_of (went c) c.self.view_is

pub invariant_of-self : goal.invariant_of-self
invariant_of-self c = (went c).kept
