use Rattle.std.proofs.Common.{sym, ◌∙◌}
use Rattle.filters.specs.ChainImage.{FrameValue}
use Rattle.serve_core.specs.Events.{Tick, Ticked}
use Rattle.serve_core.proofs.Calls.Machines.{Goes, state_of, tick_goes}
use Rattle.serve_core.proofs.Events.Changes.{after_refused}
use Rattle.serve_core.proofs.machine.Machine.tick.Goals as goal

went : (c : goal.After-tick) → Goes c.self.inside.schedule c.tick.new.self (Tick c.args.to) Ticked
went c =
    tick_goes c.self.inside.schedule c.tick.new.self c.args.to c.self.invariant
    (sym c.tick_refusal.ensures ∙ c.in-None.is) c.tick.ensures

pub returns-in-Some-clause-state : goal.returns-in-Some-clause-state
returns-in-Some-clause-state c = after_refused FrameValue c.args.self.now (Tick c.args.to) c.in-Some.refusal

pub returns-in-None-clause-state : goal.returns-in-None-clause-state
returns-in-None-clause-state c = state_of (went c) c.self.view_is

pub invariant_of-self : goal.invariant_of-self
invariant_of-self c = (went c).kept
