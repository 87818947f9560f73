use Rattle.filters.specs.ChainImage.{FrameValue}
use Rattle.serve_core.specs.declared.refusal.Refusal.TheVariants as refusals
use Rattle.serve_core.specs.Events.{Band, Stepped}
use Rattle.serve_core.proofs.Calls.Machines.{Goes, band_goes, can_step, state_of}
use Rattle.serve_core.proofs.Events.Changes.{after_refused}
use Rattle.serve_core.proofs.machine.Machine.band.Goals as goal

went : (c : goal.After-step) → Goes c.self.inside.schedule c.step.new.self (Band c.args.w) Stepped
went c =
    band_goes c.self.inside.schedule c.step.new.self c.args.w c.in-Ok.held c.self.invariant c.in-Ok.ensures.ok
    c.if-held.false c.step.ensures

pub returns-in-Err-clause-state : goal.returns-in-Err-clause-state
returns-in-Err-clause-state c = after_refused FrameValue c.args.self.now (Band c.args.w) c.in-Err.refusal

pub returns-then-held-clause-state : goal.returns-then-held-clause-state
returns-then-held-clause-state c = after_refused FrameValue c.args.self.now (Band c.args.w) refusals.GrantSpent

pub step-requires-clause-stream : goal.step-requires-clause-stream
step-requires-clause-stream c =
    can_step c.self.inside.schedule c.args.w c.in-Ok.held c.self.invariant c.in-Ok.ensures.ok c.if-held.false

pub returns-else-held-clause-state : goal.returns-else-held-clause-state
returns-else-held-clause-state c = state_of (went c) c.self.view_is

pub invariant_of-self : goal.invariant_of-self
invariant_of-self c = (went c).kept
