use Rattle.std.proofs.Common.{sym, subst, ap, Global}
use Rattle.std.specs.Arc.{arc_value}
use Rattle.std.specs.declared.sync.Arc.{Arc}
use Rattle.frame_view.specs.declared.frame.Frame.{Frame}
use Rattle.filters.specs.ChainImage.{FrameValue, value_of}
use Rattle.serve_core.specs.declared.refusal.Refusal.TheVariants as refusals
use Rattle.serve_core.specs.Events.{Accepted, Arrive, GivenBack}
use Rattle.serve_core.specs.Frames.{measures, is_image}
use Rattle.serve_core.specs.Rules.{Allows}
use Rattle.serve_core.specs.States.{State}
use Rattle.serve_core.proofs.Calls.Machines.{Goes, allowed_of, arrive_goes, no_memory_allowed, state_of}
use Rattle.serve_core.proofs.Events.Changes.{after_given_back}
use Rattle.serve_core.proofs.machine.Machine.arrive.Goals as goal

went : (c : goal.After-accept) → Goes c.self.inside.schedule c.accept.new.self
    (Arrive c.args.s (value_of (arc_value c.args.frame))) (Accepted c.accept.result)
went c =
    let a = c.geometry-geometry.ensures in
    let b = c.deref.ensures in
    arrive_goes c.self.inside.schedule c.accept.new.self c.args.s c.accept.result
    (value_of (arc_value c.args.frame)) c.in-Ok.job c.geometry-geometry.result c.arrival_refusal.result
    c.self.invariant (cc) c.in_default.is c.arrival_refusal.ensures.refusal (ap value_of c.in-Ok.ensures.source)
    c.accept.ensures

pub returns-in-Some-clause-state : goal.returns-in-Some-clause-state
returns-in-Some-clause-state c =
    after_given_back FrameValue c.args.self.now c.args.s c.in-Some.refusal (value_of (arc_value c.args.frame))

pub invariant_of-self : goal.invariant_of-self
invariant_of-self c = (went c).kept

pub returns-in-Ok-clause-allowed : goal.returns-in-Ok-clause-allowed
returns-in-Ok-clause-allowed c = allowed_of (went c) c.self.view_is

pub returns-in-Ok-clause-state : goal.returns-in-Ok-clause-state
returns-in-Ok-clause-state c = state_of (went c) c.self.view_is

pub returns-in-Err-clause-allowed : goal.returns-in-Err-clause-allowed
returns-in-Err-clause-allowed c =
    let a = c.geometry-geometry.ensures in
    let b = c.deref.ensures in
    let f = value_of (arc_value c.args.frame) in
    let allowed = no_memory_allowed c.self.inside.schedule c.args.s f c.geometry-geometry.result
    c.arrival_refusal.result (cc) c.in_default.is c.arrival_refusal.ensures.refusal in
    subst (λ (frame : Arc Frame Global). Allows measures is_image c.args.self.now (Arrive c.args.s f)
    (GivenBack refusals.NoMemory (value_of (arc_value frame)))) (sym c.in-Err.ensures.returns_frame)
    (subst (λ (m : State FrameValue). Allows measures is_image m (Arrive c.args.s f)
    (GivenBack refusals.NoMemory f)) c.self.view_is allowed)

pub returns-in-Err-clause-state : goal.returns-in-Err-clause-state
returns-in-Err-clause-state c =
    after_given_back FrameValue c.args.self.now c.args.s refusals.NoMemory (value_of (arc_value c.in-Err.frame))
