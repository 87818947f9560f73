use Rattle.std.proofs.Common.{Option, None, ◌∙◌, ap, sym, subst}
use Rattle.filters.specs.ChainImage.{FrameValue}
use Rattle.serve_core.specs.declared.refusal.Refusal.{Refusal}
use Rattle.serve_core.specs.declared.refusal.Refusal.TheVariants as refusals
use Rattle.serve_core.specs.Events.{Admit, Reply, SpecBack}
use Rattle.serve_core.specs.Schedule.{IsAdmitAnswer}
use Rattle.serve_core.specs.Seen.{heard}
use Rattle.serve_core.specs.Setup.{StreamSpec}
use Rattle.serve_core.proofs.Calls.Machines.{Goes, admit_goes, admit_unfed_goes, allowed_of, state_of}
use Rattle.serve_core.proofs.Events.Changes.{after_spec_back}
use Rattle.serve_core.proofs.machine.Machine.admit.Goals as goal
use Rattle.serve_core.proofs.machine.Machine.admit.Goals.{in-Ok, in-Err}

-- the stream can be admitted
can : (c : goal.Joined-admit) → IsAdmitAnswer c.self.inside.schedule c.args.spec None
can c =
    subst (λ (answer : Option Refusal). IsAdmitAnswer c.self.inside.schedule c.args.spec answer) c.in_default.is
    c.admit_refusal.ensures

went : (c : goal.Joined-admit)
    → Goes c.self.inside.schedule c.admit.new.self (Admit c.args.spec) (heard c.match-admit.result)
went c =
    let old = c.self.inside.schedule in
    let new = c.admit.new.self in
    let is_reply = λ (r : Reply FrameValue FrameValue). Goes old new (Admit c.args.spec) r in
    elim c.match-admit.branch [
      | in-Ok w ↦ subst is_reply (sym (ap heard w.result-is))
          (admit_goes old new c.args.spec w.in-Ok.s c.self.invariant (can c) w.in-Ok.ensures.ok)
      | in-Err w ↦ subst is_reply
          (sym (ap heard w.result-is
          ∙ ap (λ (spec : StreamSpec). SpecBack refusals.NoMemory spec) w.in-Err.ensures.err.0))
          (admit_unfed_goes old new c.args.spec c.self.invariant (can c) w.in-Err.ensures.err.1)
    ]

pub returns-in-Some-clause-state : goal.returns-in-Some-clause-state
returns-in-Some-clause-state c = after_spec_back FrameValue c.args.self.now c.args.spec c.in-Some.refusal

pub returns-clause-allowed : goal.returns-clause-allowed
returns-clause-allowed c = allowed_of (went c) c.self.view_is

pub returns-clause-state : goal.returns-clause-state
returns-clause-state c = state_of (went c) c.self.view_is

pub invariant_of-self : goal.invariant_of-self
invariant_of-self c = (went c).kept
