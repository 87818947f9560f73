use Rattle.std.proofs.Common.{arith}
use Rattle.serve_core.specs.TallyInside.{tally}
use Rattle.serve_core.proofs.Calls.Tallies.{tick_went, told}
use Rattle.serve_core.proofs.tally.Tally.tick.Goals as goal

pub invariant_of-self : goal.invariant_of-self
invariant_of-self c =
    (tick_went (tally c.self.inside) c.args.to c.self.invariant (omega arith) (omega arith)).reached

pub returns : goal.returns
returns c =
    told (tick_went (tally c.self.inside) c.args.to c.self.invariant (omega arith) (omega arith)) c.self.view_is
