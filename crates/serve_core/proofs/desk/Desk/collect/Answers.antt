use Rattle.serve_core.proofs.Calls.Desks.{collected}
use Rattle.serve_core.proofs.desk.Desk.collect.Goals as goal

pub invariant_of-self : goal.invariant_of-self
invariant_of-self c =
    (collected c.self.inside.schedule c.collect.new.self c.args.s c.collect.result c.self.invariant
    c.collect.ensures.ok c.collect.ensures.err).1

pub returns-clause-events : goal.returns-clause-events
returns-clause-events c =
    rw (← c.self.view_is) (collected c.self.inside.schedule c.collect.new.self c.args.s c.collect.result
    c.self.invariant c.collect.ensures.ok c.collect.ensures.err).0
